-- The data of a generated script, and a table in CSV.
use Rattle.std.proofs.Common.{◌≡◌, [], ◌∷◌, codes, refl}
use Rattle.std.specs.Prelude.{pos, true}
use Rattle.std.specs.Fmt.{digits}
use Rattle.csv.specs.Writing.{escaped, fields_text, is_blank}
use Rattle.cq_value.specs.declared.value.Value.TheVariants as values
use Rattle.cq_answer.specs.declared.answer.Answer.TheVariants.{Table}
use Rattle.cq_script.specs.Generating.{copies, customer_copy, customer_line, customers, order_copy, order_line, orders}
use Rattle.cq_script.specs.Texts.{csv_line, csv_table, csv_value, text_under}

one_row : copies 1 1 ≡ codes "COPY customers FROM STDIN;\n1\t0\tc1\n\\.\nCOPY orders FROM STDIN;\n1\t1\t46\n\\.\n"
unfolding copies customer_copy customer_line customers order_copy order_line orders digits
one_row = refl

table : text_under true (Table (codes "a" ∷ codes "b,c" ∷ []) ((values.Null ∷ values.Int (pos 7) ∷ []) ∷ (values.Text [] ∷ values.Text (codes "say \"x\"\n") ∷ []) ∷ []))
    ≡ codes "a,\"b,c\"\n,7\n,\"say \"\"x\"\"\n\"\n"
unfolding csv_line csv_table csv_value text_under digits escaped fields_text is_blank
table = refl

-- a record of one empty field
empty : csv_line ([] ∷ []) ≡ codes "\"\"\n"
unfolding csv_line digits escaped fields_text is_blank
empty = refl
