-- Rows that are read one after another, and the fields of a row.
use Rattle.std.proofs.Common.{◌≡◌, ℕ, ◌+◌, ◌<◌, ◌≤◌, List, [], ◌∷◌, ◌++◌, length, get_or, drop, Bool, true, false, not, ◌&&◌, Option, Some, None, is_some, if◌then◌else◌, Result, Ok, Err, refl, sym, ◌∙◌, ap, arith, append_assoc, append-nil}
use Rattle.std.proofs.lemmas.List.{drop_more, drop_all, drop-drop, length-append, length-drop, length-map}
use Rattle.std.specs.Prelude.{slice_set}
use Rattle.cq_value.specs.declared.value.Value.{Value}
use Rattle.cq_catalog.specs.declared.info.TableInfo.{TableInfo}
use Rattle.cq_copy.specs.declared.error.CopyError.{CopyError}
use Rattle.cq_copy.specs.declared.error.CopyError.TheVariants.{Columns, Encoding}
use Rattle.cq_copy.specs.declared.format.Format.{Format}
use Rattle.std.specs.Prelude.{◌==◌}
use Rattle.std.specs.List.{list_all}
use Rattle.cq_value.specs.declared.value.Value.TheVariants.{Null}
use Rattle.cq_value.specs.declared.schema.Kind.{Kind}
use Rattle.cq_copy.specs.declared.format.Format.TheVariants as format
use Rattle.cq_copy.specs.Texts.{is_simple, fields, stands, text_of}
use Rattle.cq_copy.specs.Values.{value_in}
use Rattle.cq_copy.specs.Rows.{Row, after, is_null, value_of_text, value_of_field, value_at, filled, kind_at, checked, InOrder, blank, missing, complete, row_of_fields, row_of_line, rows_from}
use Rattle.cq_copy.proofs.TextLaws.{simple_ascii, simple_stands, text_stands}
use Rattle.cq_copy.proofs.ValueLaws.{ascii_is_utf8}

-- ---- the value of a field

not_slashed : (r s n more : Bool) → (not r && not s) && more ≡ true → s && n ≡ false
not_slashed true s n more e = absurd (let h : false ≡ true = e in cc)
not_slashed false true n more e = absurd (let h : false ≡ true = e in cc)
not_slashed false false n more e = refl

not_null : (bs : List ℕ) → list_all stands bs ≡ true → is_null bs ≡ false
not_null [] e = refl
not_null (b ∷ []) e = refl
not_null (b ∷ c ∷ []) e = not_slashed (b == 13) (b == 92) (c == 78) _ e
not_null (b ∷ c ∷ d ∷ bs) e = refl

pub simple_value : (k : Kind) (bs : List ℕ) → list_all is_simple bs ≡ true → value_of_field format.Text k bs ≡ value_in k bs
unfolding value_of_field
simple_value k bs e =
    let stand = simple_stands bs e in
    ap (λ t. if t then Some Null else value_of_text k (text_of bs)) (not_null bs stand) ∙ ap (value_of_text k) (text_stands bs stand)

-- ---- the fields of a row

pub filled_more : (f : Format) (t : TableInfo) (row : ℕ) (listed : List ℕ) (fields : List (List ℕ)) (values : Row) (i : ℕ) → length fields ≡ length listed → i < length listed
    → filled f t row (drop i listed) (drop i fields) values ≡ after (value_at f t row (get_or listed i 0) (get_or fields i [])) (λ v. filled f t row (drop (i + 1) listed) (drop (i + 1) fields) (slice_set values (get_or listed i 0) v))
unfolding filled
filled_more f t row listed fields values i e lt =
    let lt2 : i < length fields = omega (arith, e) in
    ap (λ cs. filled f t row cs (drop i fields) values) (drop_more listed i 0 lt) ∙ ap (λ fs. filled f t row (get_or listed i 0 ∷ drop (i + 1) listed) fs values) (drop_more fields i [] lt2)

pub filled_all : (f : Format) (t : TableInfo) (row : ℕ) (listed : List ℕ) (fields : List (List ℕ)) (values : Row) (i : ℕ) → length listed ≤ i → filled f t row (drop i listed) fields values ≡ Ok values
unfolding filled
filled_all f t row listed fields values i le = ap (λ cs. filled f t row cs fields values) (drop_all i listed le)

-- the field that is first has a value that its column may have
pub filled_step : (f : Format) (t : TableInfo) (row : ℕ) (listed : List ℕ) (field : List ℕ) (more : List (List ℕ)) (values : Row) (i : ℕ) (v : Value) → i < length listed
    → value_of_field f (kind_at t (get_or listed i 0)) field ≡ Some v → checked t row (get_or listed i 0) (Some v) ≡ Ok v
    → filled f t row (drop i listed) (field ∷ more) values ≡ filled f t row (drop (i + 1) listed) more (slice_set values (get_or listed i 0) v)
unfolding filled
filled_step f t row listed field more values i v lt e may =
    ap (λ cs. filled f t row cs (field ∷ more) values) (drop_more listed i 0 lt)
    ∙ ap (λ r. after r (λ v. filled f t row (drop (i + 1) listed) more (slice_set values (get_or listed i 0) v))) (ap (checked t row (get_or listed i 0)) e ∙ may)

-- a field's value, and then the others
pub filled_next : (f : Format) (t : TableInfo) (row : ℕ) (listed : List ℕ) (fields : List (List ℕ)) (values : Row) (i : ℕ) (v : Value) → length fields ≡ length listed → i < length listed → value_at f t row (get_or listed i 0) (get_or fields i []) ≡ Ok v
    → filled f t row (drop (i + 1) listed) (drop (i + 1) fields) (slice_set values (get_or listed i 0) v) ≡ filled f t row (drop i listed) (drop i fields) values
filled_next f t row listed fields values i v e lt h = sym (filled_more f t row listed fields values i e lt ∙ ap (λ r. after r (λ v. filled f t row (drop (i + 1) listed) (drop (i + 1) fields) (slice_set values (get_or listed i 0) v))) h)

-- a field that is refused
pub filled_refused : (f : Format) (t : TableInfo) (row : ℕ) (listed : List ℕ) (fields : List (List ℕ)) (values : Row) (i : ℕ) (why : CopyError) → length fields ≡ length listed → i < length listed → value_at f t row (get_or listed i 0) (get_or fields i []) ≡ Err why
    → filled f t row (drop i listed) (drop i fields) values ≡ Err why
filled_refused f t row listed fields values i why e lt h = filled_more f t row listed fields values i e lt ∙ ap (λ r. after r (λ v. filled f t row (drop (i + 1) listed) (drop (i + 1) fields) (slice_set values (get_or listed i 0) v))) h

-- ---- a row whose columns come in order

-- the row, where those of its columns that aren't there yet are NULL
abbrev pub padded : Bool → TableInfo → Row → Row
padded whole t values = if whole then values ++ drop (length values) (blank t) else values

abbrev pub put_by : Bool → Row → ℕ → Value → Row
put_by whole values c v = if whole then values ++ v ∷ [] else slice_set values c v

blank_len : (t : TableInfo) → length (blank t) ≡ length t.columns
blank_len t = length-map t.columns _

set_here : (xs ys : Row) (v : Value) → 0 < length ys → slice_set (xs ++ ys) (length xs) v ≡ (xs ++ v ∷ []) ++ drop 1 ys
set_here [] [] v lt = absurd (omega arith)
set_here [] (y ∷ ys) v lt = refl
set_here (x ∷ xs) ys v lt = ap (λ zs. x ∷ zs) (set_here xs ys v lt)

pub padded_put : (whole : Bool) (t : TableInfo) (listed : List ℕ) (values : Row) (i : ℕ) (v : Value) → (whole ≡ true → InOrder t listed) → (whole ≡ true → length values ≡ i) → i < length listed
    → slice_set (padded whole t values) (get_or listed i 0) v ≡ padded whole t (put_by whole values (get_or listed i 0) v)
padded_put true t listed values i v order len lt =
    let o = order refl in
    let here : get_or listed i 0 ≡ length values = o.1 i lt ∙ sym (len refl) in
    let more : 0 < length (drop (length values) (blank t)) = omega (arith, length-drop (length values) (blank t), blank_len t, o.0, len refl) in
    ap (λ c. slice_set (values ++ drop (length values) (blank t)) c v) here ∙ set_here values (drop (length values) (blank t)) v more
    ∙ ap (λ rest. (values ++ v ∷ []) ++ rest) (drop-drop 1 (length values) (blank t) ∙ ap (λ n. drop n (blank t)) (sym (length-append values (v ∷ []))))
padded_put false t listed values i v order len lt = refl

pub put_len : (whole : Bool) (values : Row) (c i : ℕ) (v : Value) → (whole ≡ true → length values ≡ i) → whole ≡ true → length (put_by whole values c v) ≡ i + 1
put_len true values c i v len w = length-append values (v ∷ []) ∙ ap (λ n. n + 1) (len w)
put_len false values c i v len w = absurd (let h : false ≡ true = w in cc)

pub padded_all : (whole : Bool) (t : TableInfo) (listed : List ℕ) (values : Row) (i : ℕ) → (whole ≡ true → InOrder t listed) → (whole ≡ true → length values ≡ i) → length listed ≤ i → padded whole t values ≡ values
padded_all true t listed values i order len le =
    ap (λ rest. values ++ rest) (drop_all (length values) (blank t) (omega (arith, blank_len t, (order refl).0, len refl))) ∙ append-nil values
padded_all false t listed values i order len le = refl

-- ---- a row without refusal

pub is_none_one : {A : Type 0} (o : Option A) → is_some o ≡ false → o ≡ None
is_none_one None e = refl
is_none_one (Some x) e = absurd (let h : true ≡ false = e in cc)

eqb_same : (a b : ℕ) → a ≡ b → (a == b) ≡ true
eqb_same a b e = grind (arith, e)

pub row_made : (f : Format) (t : TableInfo) (listed : List ℕ) (row : ℕ) (fields : List (List ℕ)) (values : Row) → length fields ≡ length listed → filled f t row listed fields (blank t) ≡ Ok values → missing t listed ≡ None
    → row_of_fields f t listed row fields ≡ Ok values
unfolding row_of_fields
row_made f t listed row fields values e all none =
    ap (λ b. if b then after (filled f t row listed fields (blank t)) (complete row (missing t listed)) else Err (Columns row (length fields))) (eqb_same (length fields) (length listed) e)
    ∙ ap (λ r. after r (complete row (missing t listed))) all ∙ ap (λ o. complete row o values) none

pub line_made : (t : TableInfo) (listed : List ℕ) (row : ℕ) (line : List ℕ) (values : Row) → list_all is_simple line ≡ true → row_of_fields format.Text t listed row (fields line) ≡ Ok values → row_of_line t listed row line ≡ Ok values
unfolding row_of_line
line_made t listed row line values e made =
    ap (λ b. if b then row_of_fields format.Text t listed row (fields line) else Err (Encoding row)) (ascii_is_utf8 line (simple_ascii line e)) ∙ made

-- ---- the rows of lines

-- rows in front of those that follow
abbrev pub ahead : List Row → Result (List Row) CopyError → Result (List Row) CopyError
ahead rows (Ok more) = Ok (rows ++ more)
ahead rows (Err e) = Err e

one_row : (rows : List Row) (v : Row) (o : Result (List Row) CopyError) → ahead rows (after o (λ more. Ok (v ∷ more))) ≡ ahead (rows ++ v ∷ []) o
one_row rows v (Ok more) = ap (λ rs. Ok rs) (sym (append_assoc rows (v ∷ []) more))
one_row rows v (Err e) = refl

pub row_read : {X : Type 0} (row_of : ℕ → X → Result Row CopyError) (n : ℕ) (x : X) (xs : List X) (rows : List Row) (row : Row) → row_of n x ≡ Ok row → ahead rows (rows_from row_of n (x ∷ xs)) ≡ ahead (rows ++ row ∷ []) (rows_from row_of (n + 1) xs)
unfolding rows_from
row_read row_of n x xs rows row e = ap (λ r. ahead rows (after r (λ row. after (rows_from row_of (n + 1) xs) (λ rows. Ok (row ∷ rows))))) e ∙ one_row rows row (rows_from row_of (n + 1) xs)

pub row_refused : {X : Type 0} (row_of : ℕ → X → Result Row CopyError) (n : ℕ) (x : X) (xs : List X) (rows : List Row) (why : CopyError) → row_of n x ≡ Err why → ahead rows (rows_from row_of n (x ∷ xs)) ≡ Err why
unfolding rows_from
row_refused row_of n x xs rows why e = ap (λ r. ahead rows (after r (λ row. after (rows_from row_of (n + 1) xs) (λ rows. Ok (row ∷ rows))))) e

pub rows_done : {X : Type 0} (row_of : ℕ → X → Result Row CopyError) (n : ℕ) (rows : List Row) → ahead rows (rows_from row_of n []) ≡ Ok rows
unfolding rows_from
rows_done row_of n rows = ap (λ rs. Ok rs) (append-nil rows)

pub rows_begin : (o : Result (List Row) CopyError) → o ≡ ahead [] o
rows_begin (Ok rows) = refl
rows_begin (Err e) = refl
