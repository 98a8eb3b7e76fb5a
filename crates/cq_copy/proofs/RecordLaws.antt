-- The fields of a record, one after another, and the reader that gives records.
use Rattle.std.proofs.Common.{◌≡◌, ℕ, zero, suc, ◌+◌, ◌-◌, ◌<◌, ◌≤◌, List, [], ◌∷◌, ◌++◌, drop, map, Bool, true, false, Option, Some, None, Result, Ok, Err, Bor, refl, sym, ◌∙◌, ap, subst, arith, append_assoc, append-nil}
use Rattle.csv.specs.Machine.{Read, next_record}
use Rattle.csv.specs.Reading.{default_config, records_from, records_next}
use Rattle.csv.specs.Records.{field_at}
use Rattle.csv.specs.declared.parser.State.{State}
use Rattle.csv.specs.declared.reader.Reader.{Reader}
use Rattle.cq_catalog.specs.declared.info.TableInfo.{TableInfo}
use Rattle.cq_copy.specs.declared.error.CopyError.{CopyError}
use Rattle.cq_copy.specs.declared.error.CopyError.TheVariants.{Encoding}
use Rattle.cq_copy.specs.declared.format.Format.TheVariants as format
use Rattle.cq_copy.specs.Rows.{Row, row_of_fields, rows_from}
use Rattle.cq_copy.specs.Records.{Record, row_of_record, under, Reads, Gave}
use Rattle.cq_copy.proofs.RowLaws.{ahead, row_read, row_refused, rows_done, rows_begin}
use Rattle.std.proofs.lemmas.List.{map-append}
use Rattle.std.proofs.lemmas.List.Folds.{list_all-map}
use Rattle.std.specs.Prelude.{if◌then◌else◌}
use Rattle.std.specs.List.{list_all}
use Rattle.std.specs.Str.{is_utf8}

pub field_there : (fs : List (List ℕ)) (i : ℕ) (f : List ℕ) → Some f ≡ field_at fs i → drop i fs ≡ f ∷ drop (i + 1) fs
unfolding field_at
field_there [] i f e = absurd (let h : Some f ≡ None = e in cc)
field_there (g ∷ fs) zero f e = let h : Some f ≡ Some g = e in let s : g ≡ f = cc in ap (λ x. x ∷ fs) s
field_there (g ∷ fs) (suc i) f e = let n : suc i + 1 ≡ suc (i + 1) = omega arith in rw n (field_there fs i f e)

pub no_field : (fs : List (List ℕ)) (i : ℕ) → None ≡ field_at fs i → drop i fs ≡ []
unfolding field_at
no_field [] zero e = refl
no_field [] (suc i) e = refl
no_field (g ∷ fs) zero e = absurd (let h : None ≡ Some g = e in cc)
no_field (g ∷ fs) (suc i) e = no_field fs i e

-- one more field
pub field_kept : (fs : List (List ℕ)) (i j : ℕ) (items more : List (Bor (List ℕ))) (f : Bor (List ℕ)) → map (λ (g : Bor (List ℕ)). g.now) items ++ drop i fs ≡ fs → Some f.now ≡ field_at fs i → j ≡ i + 1 → more ≡ items ++ f ∷ [] → map (λ (g : Bor (List ℕ)). g.now) more ++ drop j fs ≡ fs
field_kept fs i j items more f all here next put =
    rw (put, next) (
    ap (λ x. x ++ drop (i + 1) fs) (map-append (λ (g : Bor (List ℕ)). g.now) items (f ∷ [])) ∙ append_assoc (map (λ (g : Bor (List ℕ)). g.now) items) (f.now ∷ []) (drop (i + 1) fs)
    ∙ ap (λ x. map (λ (g : Bor (List ℕ)). g.now) items ++ x) (sym (field_there fs i f.now here)) ∙ all)

pub fields_all : (fs : List (List ℕ)) (i : ℕ) (done : List (List ℕ)) → done ++ drop i fs ≡ fs → None ≡ field_at fs i → done ≡ fs
fields_all fs i done all none = sym (append-nil done) ∙ ap (λ x. done ++ x) (sym (no_field fs i none)) ∙ all

-- ---- whether a record is text

pub is_text : (t : TableInfo) (listed : List ℕ) (row : ℕ) (fields : List (Bor (List ℕ))) → list_all (λ (f : Bor (List ℕ)). is_utf8 f.now) fields ≡ true
    → row_of_record t listed row (map (λ (f : Bor (List ℕ)). f.now) fields) ≡ row_of_fields format.Csv t listed row (map (λ (f : Bor (List ℕ)). f.now) fields)
unfolding row_of_record
is_text t listed row fields e = ap (λ b. if b then row_of_fields format.Csv t listed row (map (λ (f : Bor (List ℕ)). f.now) fields) else Err (Encoding row)) (list_all-map is_utf8 (λ (f : Bor (List ℕ)). f.now) fields ∙ e)

pub not_text : (t : TableInfo) (listed : List ℕ) (row : ℕ) (fields : List (Bor (List ℕ))) → list_all (λ (f : Bor (List ℕ)). is_utf8 f.now) fields ≡ false
    → row_of_record t listed row (map (λ (f : Bor (List ℕ)). f.now) fields) ≡ Err (Encoding row)
unfolding row_of_record
not_text t listed row fields e = ap (λ b. if b then row_of_fields format.Csv t listed row (map (λ (f : Bor (List ℕ)). f.now) fields) else Err (Encoding row)) (list_all-map is_utf8 (λ (f : Bor (List ℕ)). f.now) fields ∙ e)

-- ---- what a read gives

record Next (o : Option Read) (fields : Record) (r : Reader (Bor (List ℕ))) : Type 0 where
  read : Read
  is : o ≡ Some read
  fields_are : fields ≡ read.0
  behind : Reads r read.1 read.2

gave_next : (o : Option Read) (found : Bool) (fields : Record) (r : Reader (Bor (List ℕ))) → found ≡ true → Gave o found fields r → Next o fields r
gave_next None found fields r so g = absurd (let h : true ≡ false = sym so ∙ g in cc)
gave_next (Some p) found fields r so g = record { read = p; is = refl; fields_are = g.1; behind = g.2 }

gave_none : (o : Option Read) (found : Bool) (fields : Record) (r : Reader (Bor (List ℕ))) → found ≡ false → Gave o found fields r → o ≡ None
gave_none None found fields r so g = refl
gave_none (Some p) found fields r so g = absurd (let h : false ≡ true = sym so ∙ g.0 in cc)

some_record : (fuel : ℕ) (s : State) (left : List ℕ) (p : Read) → next_record default_config s [] [] left ≡ Some p → records_from default_config (suc fuel) s left ≡ p.0 ∷ records_from default_config fuel p.1 p.2
unfolding records_from
some_record fuel s left p e = ap (records_next (records_from default_config fuel)) e

no_record : (fuel : ℕ) (s : State) (left : List ℕ) → next_record default_config s [] [] left ≡ None → records_from default_config fuel s left ≡ []
unfolding records_from
no_record zero s left e = refl
no_record (suc fuel) s left e = ap (records_next (records_from default_config fuel)) e

-- ---- the rows of records

-- the rows of the records that a reader had left are these rows, and those of the records that it has left
pub record Left (t : TableInfo) (listed : List ℕ) (most : ℕ) (all : Result (List Row) CopyError) (r : Reader (Bor (List ℕ))) (rows : List Row) (at : ℕ) : Type 0 where
  pub state : State
  pub left : List ℕ
  pub reads : Reads r state left
  pub same : all ≡ ahead rows (rows_from (row_of_record t listed) (at + 1) (records_from default_config (most - at) state left))

abbrev pub Step : Reader (Bor (List ℕ)) → Reader (Bor (List ℕ)) → Bool → Record → Type 0
Step r r2 found fields = (s : State) (left : List ℕ) → Reads r s left → Gave (next_record default_config s [] [] left) found fields r2

pub left_begin : (t : TableInfo) (listed : List ℕ) (most : ℕ) (s : State) (left : List ℕ) (r : Reader (Bor (List ℕ))) → Reads r s left → Left t listed most (rows_from (row_of_record t listed) 1 (records_from default_config most s left)) r [] 0
left_begin t listed most s left r reads = record {
  state = s;
  left = left;
  reads = reads;
  same = let whole : most ≡ most - 0 = omega arith in
      rows_begin (rows_from (row_of_record t listed) 1 (records_from default_config most s left)) ∙ ap (λ k. ahead [] (rows_from (row_of_record t listed) 1 (records_from default_config k s left))) whole;
}

turn : (t : TableInfo) (listed : List ℕ) (most : ℕ) (all : Result (List Row) CopyError) (r : Reader (Bor (List ℕ))) (rows : List Row) (at : ℕ) (r2 : Reader (Bor (List ℕ))) (fields : Record) (l : Left t listed most all r rows at) → at < most → (n : Next (next_record default_config l.state [] [] l.left) fields r2)
    → all ≡ ahead rows (rows_from (row_of_record t listed) (at + 1) (fields ∷ records_from default_config (most - (at + 1)) n.read.1 n.read.2))
turn t listed most all r rows at r2 fields l lt n =
    let fuel : most - at ≡ suc (most - (at + 1)) = omega arith in
    l.same ∙ ap (λ k. ahead rows (rows_from (row_of_record t listed) (at + 1) (records_from default_config k l.state l.left))) fuel
    ∙ ap (λ rs. ahead rows (rows_from (row_of_record t listed) (at + 1) rs)) (some_record (most - (at + 1)) l.state l.left n.read n.is ∙ ap (λ f. f ∷ records_from default_config (most - (at + 1)) n.read.1 n.read.2) (sym n.fields_are))

pub left_more : (t : TableInfo) (listed : List ℕ) (most : ℕ) (all : Result (List Row) CopyError) (r : Reader (Bor (List ℕ))) (rows : List Row) (at : ℕ) (r2 : Reader (Bor (List ℕ))) (found : Bool) (fields : Record) (row : Row)
    → Left t listed most all r rows at → at < most → Step r r2 found fields → found ≡ true → row_of_record t listed (at + 1) fields ≡ Ok row → Left t listed most all r2 (rows ++ row ∷ []) (at + 1)
left_more t listed most all r rows at r2 found fields row l lt step so e =
    let n = gave_next _ found fields r2 so (step l.state l.left l.reads) in
    record {
      state = n.read.1;
      left = n.read.2;
      reads = n.behind;
      same = turn t listed most all r rows at r2 fields l lt n ∙ row_read (row_of_record t listed) (at + 1) fields (records_from default_config (most - (at + 1)) n.read.1 n.read.2) rows row e;
    }

pub left_refused : (t : TableInfo) (listed : List ℕ) (most : ℕ) (all : Result (List Row) CopyError) (r : Reader (Bor (List ℕ))) (rows : List Row) (at : ℕ) (r2 : Reader (Bor (List ℕ))) (found : Bool) (fields : Record) (why : CopyError)
    → Left t listed most all r rows at → at < most → Step r r2 found fields → found ≡ true → row_of_record t listed (at + 1) fields ≡ Err why → all ≡ Err why
left_refused t listed most all r rows at r2 found fields why l lt step so e =
    let n = gave_next _ found fields r2 so (step l.state l.left l.reads) in
    turn t listed most all r rows at r2 fields l lt n ∙ row_refused (row_of_record t listed) (at + 1) fields (records_from default_config (most - (at + 1)) n.read.1 n.read.2) rows why e

pub left_none : (t : TableInfo) (listed : List ℕ) (most : ℕ) (all : Result (List Row) CopyError) (r : Reader (Bor (List ℕ))) (rows : List Row) (at : ℕ) (r2 : Reader (Bor (List ℕ))) (found : Bool) (fields : Record)
    → Left t listed most all r rows at → Step r r2 found fields → found ≡ false → all ≡ Ok rows
left_none t listed most all r rows at r2 found fields l step so =
    l.same ∙ ap (λ rs. ahead rows (rows_from (row_of_record t listed) (at + 1) rs)) (no_record (most - at) l.state l.left (gave_none _ found fields r2 so (step l.state l.left l.reads))) ∙ rows_done (row_of_record t listed) (at + 1) rows

pub left_done : (t : TableInfo) (listed : List ℕ) (most : ℕ) (all : Result (List Row) CopyError) (r : Reader (Bor (List ℕ))) (rows : List Row) (at : ℕ) → Left t listed most all r rows at → most ≤ at → all ≡ Ok rows
unfolding records_from
left_done t listed most all r rows at l le =
    let none : most - at ≡ zero = omega arith in
    l.same ∙ ap (λ k. ahead rows (rows_from (row_of_record t listed) (at + 1) (records_from default_config k l.state l.left))) none ∙ rows_done (row_of_record t listed) (at + 1) rows

-- ---- with a header and without

pub not_under : (rs : List Record) → under false rs ≡ rs
not_under [] = refl
not_under (r ∷ rs) = refl

-- the header is read
pub header_read : (t : TableInfo) (listed : List ℕ) (fuel : ℕ) (s : State) (left : List ℕ) (r r2 : Reader (Bor (List ℕ))) (found : Bool) (fields : Record) (P : Result (List Row) CopyError → Type 0) → Reads r s left → Step r r2 found fields → found ≡ true
    → ((s2 : State) (left2 : List ℕ) → Reads r2 s2 left2 → P (rows_from (row_of_record t listed) 1 (records_from default_config fuel s2 left2))) → P (rows_from (row_of_record t listed) 1 (under true (records_from default_config (fuel + 1) s left)))
header_read t listed fuel s left r r2 found fields P reads step so f =
    let one : fuel + 1 ≡ suc fuel = omega arith in
    let n = gave_next _ found fields r2 so (step s left reads) in
    subst P (sym (ap (λ k. rows_from (row_of_record t listed) 1 (under true (records_from default_config k s left))) one ∙ ap (λ rs. rows_from (row_of_record t listed) 1 (under true rs)) (some_record fuel s left n.read n.is))) (f n.read.1 n.read.2 n.behind)

-- there is no header to be read
pub no_header : (t : TableInfo) (listed : List ℕ) (fuel : ℕ) (s : State) (left : List ℕ) (r r2 : Reader (Bor (List ℕ))) (found : Bool) (fields : Record) → Reads r s left → Step r r2 found fields → found ≡ false
    → rows_from (row_of_record t listed) 1 (under true (records_from default_config fuel s left)) ≡ Ok []
unfolding rows_from
no_header t listed fuel s left r r2 found fields reads step so =
    ap (λ rs. rows_from (row_of_record t listed) 1 (under true rs)) (no_record fuel s left (gave_none _ found fields r2 so (step s left reads)))
