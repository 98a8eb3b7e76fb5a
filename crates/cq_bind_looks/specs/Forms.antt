-- What an expression looks like, as the definitions have it.
use Rattle.cq_reading.specs.Titles as title
use Rattle.cq_bind_looks.specs.declared.forms.Form as declared
use Rattle.cq_bind_looks.specs.declared.forms.Form.TheVariants as looks

abbrev pub form_of : declared.Form → title.Form
form_of (looks.Number n) = title.Number n
form_of (looks.Signed sign n) = title.Signed sign n
form_of (looks.Name name) = title.Name name.now
form_of looks.Other = title.Other
