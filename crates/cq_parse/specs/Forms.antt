-- The forms of arguments, as the grammar's conditions name them.
use Rattle.cq_grammar.specs.Conditions as spec
use Rattle.cq_parse.specs.declared.conditions.Form.{Form}
use Rattle.cq_parse.specs.declared.conditions.Form.TheVariants as forms

abbrev pub form_of : Form → spec.Form
form_of forms.Quoted = spec.text
form_of forms.Number = spec.number
