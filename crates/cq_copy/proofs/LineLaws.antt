-- The records of data in CSV without quotes are its lines that aren't empty.
use Rattle.std.proofs.Common.{◌≡◌, ℕ, zero, suc, ◌+◌, ◌<◌, ◌≤◌, List, [], ◌∷◌, ◌++◌, length, get_or, drop, Bool, true, false, not, ◌&&◌, ◌||◌, cond, Option, Some, None, is_none, Ok, Err, refl, sym, ◌∙◌, ap, arith, append_assoc, append-nil, if◌then◌else◌}
use Rattle.std.specs.Prelude.{◌==◌}
use Rattle.std.specs.List.{list_all, onto_first, position_or_len, prefix_len}
use Rattle.std.proofs.lemmas.List.Sums.{prefix_len_is}
use Rattle.memchr.specs.Find.{IsFirstByte, Nowhere, NoneBefore, Passes, is_byte, is_byte2}
use Rattle.cq_copy.proofs.TextLaws.{both, not_yes, one_part, simple_ascii}
use Rattle.cq_copy.proofs.ValueLaws.{ascii_is_utf8}
use Rattle.std.specs.Str.{is_utf8}
use Rattle.cq_catalog.specs.declared.info.TableInfo.{TableInfo}
use Rattle.cq_copy.specs.declared.error.CopyError.TheVariants.{Encoding}
use Rattle.cq_copy.specs.declared.format.Format.TheVariants as format
use Rattle.cq_copy.specs.Rows.{Row, row_of_fields}
use Rattle.std.proofs.lemmas.Bool.{eqb-true}
use Rattle.csv.specs.Machine.{Read, is_end, fields_after, field_after, after_end, next_record}
use Rattle.csv.specs.Reading.{default_config, records_from, records_next, is_bom, strip_bom}
use Rattle.csv.specs.declared.parser.State.{State}
use Rattle.csv.specs.declared.parser.State.TheVariants.{StartRecord, StartField, InField, AfterCr}
use Rattle.csv.specs.declared.parser.Action.{Action}
use Rattle.csv.specs.declared.parser.Action.TheVariants as act
use Rattle.csv.specs.declared.parser.Terminator.TheVariants as term
use Rattle.cq_copy.specs.Texts.{fields_by, is_simple}
use Rattle.cq_copy.specs.Records.{Record, records, row_of_record, under}
use Rattle.cq_copy.specs.Lines.{is_unquoted, is_marked, ends, lines, records_in}

-- ---- the fields of a line, of which some bytes are read

abbrev fields_on : List ℕ → List ℕ → List (List ℕ)
fields_on field [] = field ∷ []
fields_on field (b ∷ bs) = if b == 44 then field ∷ fields_on [] bs else fields_on (field ++ b ∷ []) bs

abbrev onto : List ℕ → List (List ℕ) → List (List ℕ)
onto field fs = (field ++ get_or fs 0 []) ∷ drop 1 fs

abbrev parts_by : Bool → ℕ → List (List ℕ) → List (List ℕ)
parts_by t b fs = cond t ([] ∷ fs) (onto_first b fs)

some_by : (t : Bool) (b : ℕ) (fs : List (List ℕ)) → parts_by t b fs ≡ onto [] (parts_by t b fs)
some_by true b fs = refl
some_by false b [] = refl
some_by false b (f ∷ fs) = refl

-- there is a field
some_field : (bs : List ℕ) → fields_by 44 bs ≡ onto [] (fields_by 44 bs)
some_field [] = refl
some_field (b ∷ bs) = some_by (b == 44) b (fields_by 44 bs)

onto_more : (field : List ℕ) (b : ℕ) (fs : List (List ℕ)) → onto (field ++ b ∷ []) fs ≡ onto field (onto_first b fs)
onto_more field b [] = ap (λ x. x ∷ []) (append-nil (field ++ b ∷ []))
onto_more field b (f ∷ fs) = ap (λ x. x ∷ fs) (append_assoc field (b ∷ []) f)

fields_by_on : (t : Bool) (field : List ℕ) (b : ℕ) (bs : List ℕ) → ((field : List ℕ) → fields_on field bs ≡ onto field (fields_by 44 bs)) → (if t then field ∷ fields_on [] bs else fields_on (field ++ b ∷ []) bs) ≡ onto field (parts_by t b (fields_by 44 bs))
fields_by_on true field b bs more = ap (λ fs. field ∷ fs) (more [] ∙ sym (some_field bs)) ∙ ap (λ x. x ∷ fields_by 44 bs) (sym (append-nil field))
fields_by_on false field b bs more = more (field ++ b ∷ []) ∙ onto_more field b (fields_by 44 bs)

fields_on_is : (bs field : List ℕ) → fields_on field bs ≡ onto field (fields_by 44 bs)
fields_on_is [] field = ap (λ x. x ∷ []) (sym (append-nil field))
fields_on_is (b ∷ bs) field = fields_by_on (b == 44) field b bs (λ f. fields_on_is bs f)

all_fields : (bs : List ℕ) → fields_on [] bs ≡ fields_by 44 bs
all_fields bs = fields_on_is bs [] ∙ sym (some_field bs)

-- ---- the turns of the machine

-- what a step of the machine leads to
abbrev turn : State × Action → ℕ → List (List ℕ) → List ℕ → List ℕ → Option Read
turn next c fields field bs = if is_end next.1 then Some (fields_after next.1 fields field, next.0, bs) else next_record default_config next.0 (fields_after next.1 fields field) (field_after next.1 c field) bs

-- a step in a field, by whether the byte is a comma and whether it ends the line
abbrev in_field_by : Bool → Bool → ℕ → State × Action
in_field_by comma end c = if comma then (StartField, act.EndField) else (if end then (after_end term.CRLF c, act.EndRecord) else (InField, act.Copy))

in_field_turn : (fields : List (List ℕ)) (field : List ℕ) (c : ℕ) (bs : List ℕ) → next_record default_config InField fields field (c ∷ bs) ≡ turn (in_field_by (c == 44) (ends c) c) c fields field bs
unfolding next_record
in_field_turn fields field c bs = refl

unquoted_by : (t : Bool) (x y : State × Action) → not t ≡ true → (if t then x else y) ≡ y
unquoted_by true x y e = absurd (let h : false ≡ true = e in cc)
unquoted_by false x y e = refl

first_and : (t more : Bool) → t && more ≡ true → t ≡ true
first_and true more e = refl
first_and false more e = absurd (let h : false ≡ true = e in cc)

rest_and : (t more : Bool) → t && more ≡ true → more ≡ true
rest_and true more e = e
rest_and false more e = absurd (let h : false ≡ true = e in cc)

-- a field without quotes begins as it goes on
field_begins : (fields : List (List ℕ)) (field bs : List ℕ) → list_all is_unquoted bs ≡ true → next_record default_config StartField fields field bs ≡ next_record default_config InField fields field bs
unfolding next_record
field_begins fields field [] e = refl
field_begins fields field (c ∷ bs) e = ap (λ next. turn next c fields field bs) (unquoted_by (c == 34) _ _ (first_and (not (c == 34)) (list_all is_unquoted bs) e))

-- a record without quotes begins with its first field, or passes over the end of a line
record_begins : (c : ℕ) (bs : List ℕ) → list_all is_unquoted (c ∷ bs) ≡ true
    → next_record default_config StartRecord [] [] (c ∷ bs) ≡ turn (if ends c then (StartRecord, act.Skip) else in_field_by (c == 44) (ends c) c) c [] [] bs
unfolding next_record
record_begins c bs e = ap (λ next. turn (if ends c then (StartRecord, act.Skip) else next) c [] [] bs) (unquoted_by (c == 34) _ _ (first_and (not (c == 34)) (list_all is_unquoted bs) e))

newline_by : (n r : Bool) (x y : State × Action) → (if n then x else (if r || n then x else y)) ≡ (if r || n then x else y)
newline_by true true x y = refl
newline_by true false x y = refl
newline_by false r x y = refl

-- behind a carriage return records begin as behind a newline
return_begins : (bs : List ℕ) → next_record default_config AfterCr [] [] bs ≡ next_record default_config StartRecord [] [] bs
unfolding next_record
return_begins [] = refl
return_begins (c ∷ bs) = ap (λ next. turn next c [] [] bs) (newline_by (c == 10) (c == 13) _ _)

return_records : (n : ℕ) (bs : List ℕ) → records_from default_config n AfterCr bs ≡ records_from default_config n StartRecord bs
unfolding records_from
return_records zero bs = refl
return_records (suc n) bs = ap (records_next (records_from default_config n)) (return_begins bs)

end_by : (t : Bool) (n : ℕ) (bs : List ℕ) → records_from default_config n (if t then AfterCr else StartRecord) bs ≡ records_from default_config n StartRecord bs
end_by true n bs = return_records n bs
end_by false n bs = refl

no_records : (n : ℕ) → records_from default_config n StartRecord [] ≡ []
unfolding records_from next_record
no_records zero = refl
no_records (suc n) = refl

-- ---- the records of lines

-- the record of a line of which some fields are read, and those of the lines behind it
abbrev joined : List (List ℕ) → List ℕ → List (List ℕ) → List Record
joined fields field ls = (fields ++ fields_on field (get_or ls 0 [])) ∷ records_in (drop 1 ls)

joined_onto : (fields : List (List ℕ)) (field : List ℕ) (c : ℕ) (ls : List (List ℕ)) → joined fields field (onto_first c ls) ≡ (fields ++ (if c == 44 then field ∷ fields_on [] (get_or ls 0 []) else fields_on (field ++ c ∷ []) (get_or ls 0 []))) ∷ records_in (drop 1 ls)
joined_onto fields field c [] = refl
joined_onto fields field c (l ∷ ls) = refl

records_onto : (c : ℕ) (ls : List (List ℕ)) → records_in (onto_first c ls) ≡ joined [] [] (onto_first c ls)
unfolding records_in
records_onto c [] = ap (λ fs. fs ∷ []) (sym (all_fields (c ∷ [])))
records_onto c (l ∷ ls) = ap (λ fs. fs ∷ records_in ls) (sym (all_fields (c ∷ l)))

-- what the machine reads of data, at the front of a record and in a field
record Reading (bs : List ℕ) : Type 0 where
  start : (n : ℕ) → length bs ≤ n → records_from default_config (suc n) StartRecord bs ≡ records_in (lines bs)
  inside : (n : ℕ) (fields : List (List ℕ)) (field : List ℕ) → length bs ≤ n → records_next (records_from default_config n) (next_record default_config InField fields field bs) ≡ joined fields field (lines bs)

behind_line : (n : ℕ) (bs : List ℕ) → suc (length bs) ≤ n → Reading bs → records_from default_config n StartRecord bs ≡ records_in (lines bs)
behind_line zero bs le r = absurd (omega arith)
behind_line (suc n) bs le r = r.start n (omega arith)

not_both : (c : ℕ) → (c == 44) ≡ true → ends c ≡ true → ⊥
not_both c m e = grind (arith, eqb-true c 44 m)

inside_by : (comma end : Bool) (c : ℕ) (bs : List ℕ) (n : ℕ) (fields : List (List ℕ)) (field : List ℕ) → (c == 44) ≡ comma → ends c ≡ end → list_all is_unquoted bs ≡ true → suc (length bs) ≤ n → Reading bs
    → records_next (records_from default_config n) (turn (in_field_by comma end c) c fields field bs) ≡ joined fields field (parts_by end c (lines bs))
inside_by true true c bs n fields field m e u le r = absurd (not_both c m e)
inside_by true false c bs n fields field m e u le r =
    ap (records_next (records_from default_config n)) (field_begins (fields ++ field ∷ []) [] bs u) ∙ r.inside n (fields ++ field ∷ []) [] (omega arith)
    ∙ ap (λ fs. fs ∷ records_in (drop 1 (lines bs))) (append_assoc fields (field ∷ []) (fields_on [] (get_or (lines bs) 0 [])))
    ∙ ap (λ t. (fields ++ (if t then field ∷ fields_on [] (get_or (lines bs) 0 []) else fields_on (field ++ c ∷ []) (get_or (lines bs) 0 []))) ∷ records_in (drop 1 (lines bs))) (sym m)
    ∙ sym (joined_onto fields field c (lines bs))
inside_by false true c bs n fields field m e u le r = ap (λ rs. (fields ++ field ∷ []) ∷ rs) (end_by (c == 13) n bs ∙ behind_line n bs le r)
inside_by false false c bs n fields field m e u le r =
    r.inside n fields (field ++ c ∷ []) (omega arith)
    ∙ ap (λ t. (fields ++ (if t then field ∷ fields_on [] (get_or (lines bs) 0 []) else fields_on (field ++ c ∷ []) (get_or (lines bs) 0 []))) ∷ records_in (drop 1 (lines bs))) (sym m)
    ∙ sym (joined_onto fields field c (lines bs))

start_by : (end : Bool) (c : ℕ) (bs : List ℕ) (n : ℕ) → ends c ≡ end → list_all is_unquoted bs ≡ true → suc (length bs) ≤ n → Reading bs
    → records_next (records_from default_config n) (turn (if end then (StartRecord, act.Skip) else in_field_by (c == 44) end c) c [] [] bs) ≡ records_in (parts_by end c (lines bs))
unfolding records_from records_in
start_by true c bs n e u le r = r.start n (omega arith)
start_by false c bs n e u le r = inside_by (c == 44) false c bs n [] [] refl e u le r ∙ sym (records_onto c (lines bs))

reading : (bs : List ℕ) → list_all is_unquoted bs ≡ true → Reading bs
unfolding records_from next_record records_in
reading [] u = record {
  start = λ n le. refl;
  inside = λ n fields field le. ap (λ rs. (fields ++ field ∷ []) ∷ rs) (no_records n);
}
reading (c ∷ bs) u =
    let more = rest_and (not (c == 34)) (list_all is_unquoted bs) u in
    let r = reading bs more in
    record {
      start = λ n le. ap (records_next (records_from default_config n)) (record_begins c bs u) ∙ start_by (ends c) c bs n refl more (omega arith) r;
      inside = λ n fields field le. ap (records_next (records_from default_config n)) (in_field_turn fields field c bs) ∙ inside_by (c == 44) (ends c) c bs n fields field refl refl more (omega arith) r;
    }

-- ---- the records of data

unmarked_by : (t : Bool) (a b c : ℕ) (bs : List ℕ) → length (if t then bs else a ∷ b ∷ c ∷ bs) ≤ length (a ∷ b ∷ c ∷ bs)
unmarked_by true a b c bs = omega arith
unmarked_by false a b c bs = omega arith

unmarked_len : (bs : List ℕ) → length (strip_bom bs) ≤ length bs
unfolding strip_bom
unmarked_len [] = omega arith
unmarked_len (a ∷ []) = omega arith
unmarked_len (a ∷ b ∷ []) = omega arith
unmarked_len (a ∷ b ∷ c ∷ bs) = unmarked_by (is_bom a b c) a b c bs

unquoted_mark : (t : Bool) (a b c : ℕ) (bs : List ℕ) → list_all is_unquoted (a ∷ b ∷ c ∷ bs) ≡ true → list_all is_unquoted (if t then bs else a ∷ b ∷ c ∷ bs) ≡ true
unquoted_mark true a b c bs u = rest_and (is_unquoted c) _ (rest_and (is_unquoted b) _ (rest_and (is_unquoted a) _ u))
unquoted_mark false a b c bs u = u

unmarked_unquoted : (bs : List ℕ) → list_all is_unquoted bs ≡ true → list_all is_unquoted (strip_bom bs) ≡ true
unfolding strip_bom
unmarked_unquoted [] u = u
unmarked_unquoted (a ∷ []) u = u
unmarked_unquoted (a ∷ b ∷ []) u = u
unmarked_unquoted (a ∷ b ∷ c ∷ bs) u = unquoted_mark (is_bom a b c) a b c bs u

mark_stripped : (bs : List ℕ) → strip_bom bs ≡ (if is_marked bs then drop 3 bs else bs)
unfolding strip_bom
mark_stripped [] = refl
mark_stripped (a ∷ []) = refl
mark_stripped (a ∷ b ∷ []) = refl
mark_stripped (a ∷ b ∷ c ∷ bs) = refl

pub unmarked : (bs : List ℕ) → is_marked bs ≡ true → drop 3 bs ≡ strip_bom bs
unmarked bs e = sym (mark_stripped bs ∙ ap (λ t. if t then drop 3 bs else bs) e)

pub no_mark : (bs : List ℕ) → is_marked bs ≡ false → bs ≡ strip_bom bs
no_mark bs e = sym (mark_stripped bs ∙ ap (λ t. if t then drop 3 bs else bs) e)

pub unquoted_records : (bs : List ℕ) → list_all is_unquoted bs ≡ true → records bs ≡ records_in (lines (strip_bom bs))
unquoted_records bs u =
    let one : length bs + 1 ≡ suc (length bs) = omega arith in
    ap (λ n. records_from default_config n StartRecord (strip_bom bs)) one ∙ (reading (strip_bom bs) (unmarked_unquoted bs u)).start (length bs) (unmarked_len bs)

-- ---- the first line

pub found_end : (bs : List ℕ) (n : ℕ) → NoneBefore (Passes (is_byte2 13 10) bs) 0 (length bs) n → Passes (is_byte2 13 10) bs n → n ≡ prefix_len (λ (b : ℕ). not (ends b)) bs
found_end bs n none here =
    sym (prefix_len_is (λ (b : ℕ). not (ends b)) bs n 0 (omega (arith, none.high)) (λ k lt. not_yes (ends (get_or bs k 0)) (none.before k (omega arith) lt)) (λ lt. ap not here))

pub no_end : (bs : List ℕ) → Nowhere (Passes (is_byte2 13 10) bs) 0 (length bs) → length bs ≡ prefix_len (λ (b : ℕ). not (ends b)) bs
no_end bs none =
    sym (prefix_len_is (λ (b : ℕ). not (ends b)) bs (length bs) 0 (omega arith) (λ k lt. not_yes (ends (get_or bs k 0)) (none k (omega arith) lt)) (λ lt. absurd (omega arith)))

nowhere_by : (bs : List ℕ) → ((k : ℕ) → k < length bs → not (get_or bs k 0 == 34) ≡ true) → list_all is_unquoted bs ≡ true
nowhere_by [] none = refl
nowhere_by (b ∷ bs) none = both (is_unquoted b) (list_all is_unquoted bs) (none 0 (omega arith)) (nowhere_by bs (λ k lt. none (suc k) (omega arith)))

pub none_quoted : (bs : List ℕ) (first : Option ℕ) → IsFirstByte (is_byte 34) bs first → is_none first ≡ true → list_all is_unquoted bs ≡ true
none_quoted bs None none e = nowhere_by bs (λ k lt. not_yes (get_or bs k 0 == 34) (none k (omega arith) lt))
none_quoted bs (Some n) at e = absurd (let h : false ≡ true = e in cc)

-- behind the last line there is nothing
pub last_record : (bs : List ℕ) → length bs ≤ position_or_len ends bs → records_in (lines bs) ≡ records_in (bs ∷ lines [])
unfolding records_in
last_record [] le = refl
last_record (b ∷ bs) le = ap records_in (one_part ends (b ∷ bs) le)

pub empty_line : (ls : List (List ℕ)) (line : List ℕ) → length line < 1 → records_in (line ∷ ls) ≡ records_in ls
unfolding records_in
empty_line ls [] lt = refl
empty_line ls (b ∷ bs) lt = absurd (omega arith)

pub record_line : (ls : List (List ℕ)) (line : List ℕ) → 0 < length line → records_in (line ∷ ls) ≡ fields_by 44 line ∷ records_in ls
unfolding records_in
record_line ls [] lt = absurd (omega arith)
record_line ls (b ∷ bs) lt = refl

pub no_line : (bs : List ℕ) → length bs < 1 → records_in (lines bs) ≡ []
unfolding records_in
no_line [] lt = refl
no_line (b ∷ bs) lt = absurd (omega arith)

-- ---- a record of simple bytes

simple_by : (t : Bool) (b : ℕ) (fs : List (List ℕ)) → is_simple b ≡ true → list_all (list_all is_simple) fs ≡ true → list_all (list_all is_simple) (parts_by t b fs) ≡ true
simple_by true b fs s e = e
simple_by false b [] s e = both _ _ (both _ _ s refl) refl
simple_by false b (f ∷ fs) s e = both _ _ (both _ _ s (first_and _ _ e)) (rest_and (list_all is_simple f) _ e)

simple_fields : (bs : List ℕ) → list_all is_simple bs ≡ true → list_all (list_all is_simple) (fields_by 44 bs) ≡ true
simple_fields [] e = refl
simple_fields (b ∷ bs) e = simple_by (b == 44) b (fields_by 44 bs) (first_and _ _ e) (simple_fields bs (rest_and (is_simple b) _ e))

simple_texts : (fs : List (List ℕ)) → list_all (list_all is_simple) fs ≡ true → list_all is_utf8 fs ≡ true
simple_texts [] e = refl
simple_texts (f ∷ fs) e = both _ _ (ascii_is_utf8 f (simple_ascii f (first_and _ _ e))) (simple_texts fs (rest_and (list_all is_simple f) _ e))

pub record_made : (t : TableInfo) (listed : List ℕ) (row : ℕ) (line : List ℕ) (values : Row) → list_all is_simple line ≡ true → row_of_fields format.Csv t listed row (fields_by 44 line) ≡ Ok values → row_of_record t listed row (fields_by 44 line) ≡ Ok values
unfolding row_of_record
record_made t listed row line values e made =
    ap (λ b. if b then row_of_fields format.Csv t listed row (fields_by 44 line) else Err (Encoding row)) (simple_texts (fields_by 44 line) (simple_fields line e)) ∙ made

-- ---- a header

pub under_is : (rs : List Record) → under true rs ≡ drop 1 rs
under_is [] = refl
under_is (r ∷ rs) = refl
