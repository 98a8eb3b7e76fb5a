-- What the words after the program's name settle. `fault_of`, `matches_of` and `subcommand_of` are the kit's definition of what
-- clap reads (clap documentation, `Command` and `Arg`): whether it takes the words, and which argument has which words.
use Rattle.std.specs.Prelude.{ℕ, Bool, true, false, List, [], ◌∷◌, Option, Some, None, length, codes, ⊤, option_map, option_and_then, nat_lt, nat_le, ◌&&◌, if◌then◌else◌}
use Rattle.std.specs.List.{list_all, list_any}
use Rattle.std.specs.Char.{is_ascii_digit}
use Rattle.std.specs.Str.{bytes_eq}
use Rattle.std.specs.Str.Parse.{digits_value}
use Rattle.std.specs.Option.{option_map_or}
use Rattle.clap.specs.Words.{App, Kinds, Row, Rule, Text, fault_of, first_of, matches_of, new_app, new_rule, subcommand_of, with_rule, with_subcommand}
use Rattle.clap.specs.Simple.{on_top}
use Rattle.clap.specs.declared.builder.action.ArgAction.TheVariants.{Set, SetTrue}
use Rattle.cq_words.specs.declared.settled.Settled.{Settled}

-- `--name`
abbrev pub flag : Text → Rule
flag name = record (new_rule name) { long = Some name; action = Some SetTrue }

-- `--name value` or `--name=value`
abbrev pub option : Text → Rule
option name = record (new_rule name) { long = Some name; action = Some Set }

-- a word that must stand in its place
abbrev pub wanted : Text → Rule
wanted name = record (new_rule name) { required = true; action = Some Set }

-- `generate number rows`
abbrev pub generate : App
generate = with_rule (with_rule (on_top (λ s. record s { disable_help_flag = true }) (new_app (codes "generate"))) (wanted (codes "number"))) (wanted (codes "rows"))

-- `chunks rows least greatest`
abbrev pub chunks : App
chunks = with_rule (with_rule (with_rule (on_top (λ s. record s { disable_help_flag = true }) (new_app (codes "chunks"))) (wanted (codes "rows"))) (wanted (codes "least"))) (wanted (codes "greatest"))

-- the program's command without its words: the first word is no program's name, and there is no help
abbrev pub bare : App
bare = on_top (λ s. record s { no_binary_name = true; disable_help_flag = true; disable_help_subcommand = true }) (new_app (codes "citus_run"))

-- with its options
abbrev pub options : App
options = with_rule (with_rule (with_rule (with_rule (with_rule (with_rule bare (option (codes "workers"))) (flag (codes "repartition"))) (flag (codes "csv"))) (flag (codes "stop"))) (flag (codes "journal"))) (flag (codes "columnar"))

-- and with `generate` and `chunks`
abbrev pub program : App
program = with_subcommand (with_subcommand options generate.top) chunks.top

-- a number of decimal digits alone, from `least` to `most`
abbrev pub number_in : ℕ → ℕ → Text → Option ℕ
number_in least most text =
    let n = digits_value 10 text in
    if nat_lt 0 (length text) && list_all is_ascii_digit text && nat_le least n && nat_le n most then Some n else None

-- 2 nodes where they are not given, and 16 at most
abbrev pub workers_in : List Row → Option ℕ
workers_in rows = option_map_or (number_in 1 16) (first_of (codes "workers") rows) (Some 2)

abbrev pub is_on : Text → List Row → Bool
is_on name rows = option_map_or (λ text. bytes_eq text (codes "true")) (first_of name rows) false

abbrev pub number_of : Text → ℕ → ℕ → List Row → Option ℕ
number_of name least most rows = option_and_then (number_in least most) (first_of name rows)

abbrev pub both : Option ℕ → Option ℕ → Option (ℕ × ℕ)
both x y = option_and_then (λ n. option_map (λ m. (n, m)) y) x

-- the number that a generated script begins with, and how many rows it has
abbrev pub generated : List Row → Option (ℕ × ℕ)
generated rows = both (number_of (codes "number") 0 4294967295 rows) (number_of (codes "rows") 1 100000 rows)

-- how many rows are counted in chunks, and the least and the greatest that counts
abbrev pub counted : List Row → Option (ℕ × ℕ × ℕ)
counted rows = option_and_then (λ n. option_map (λ p. (n, p.0, p.1)) (both (number_of (codes "least") 0 4294967295 rows) (number_of (codes "greatest") 0 4294967295 rows))) (number_of (codes "rows") 1 100000 rows)

-- the words of a subcommand, where they have it
abbrev pub rows_under : Text → Option (Text × List Row) → Option (List Row)
rows_under name None = None
rows_under name (Some p) = if bytes_eq p.0 name then Some p.1 else None

-- what a subcommand settles, where the words have it
abbrev pub asked_by : {X : Type 0} → (List Row → Option X) → Option (List Row) → Option (Option X)
asked_by settle None = Some None
asked_by settle (Some rows) = option_map (λ x. Some x) (settle rows)

abbrev pub generate_in : Option (Text × List Row) → Option (Option (ℕ × ℕ))
generate_in sub = asked_by generated (rows_under (codes "generate") sub)

abbrev pub chunks_in : Option (Text × List Row) → Option (Option (ℕ × ℕ × ℕ))
chunks_in sub = asked_by counted (rows_under (codes "chunks") sub)

abbrev pub settled_with : List Row → ℕ → Option (ℕ × ℕ) → Option (ℕ × ℕ × ℕ) → Settled
settled_with rows workers generate chunks = record {
  workers = workers;
  repartition = is_on (codes "repartition") rows;
  csv = is_on (codes "csv") rows;
  stop = is_on (codes "stop") rows;
  journal = is_on (codes "journal") rows;
  columnar = is_on (codes "columnar") rows;
  generate = generate;
  chunks = chunks;
}

-- what clap's matches settle
abbrev pub settled_by : List Row → Option (Text × List Row) → Option Settled
settled_by rows sub = option_and_then (λ workers. option_and_then (λ generate. option_map (settled_with rows workers generate) (chunks_in sub)) (generate_in sub)) (workers_in rows)

abbrev pub IsRefused : Kinds → Type 0
IsRefused [] = ⊥
IsRefused (k ∷ ks) = ⊤

abbrev pub where_taken : Kinds → Option Settled → Option Settled
where_taken [] s = s
where_taken (k ∷ ks) s = None

-- `--` is none of the program's words
abbrev pub is_dashes : Text → Bool
is_dashes word = bytes_eq word (codes "--")

unfoldable pub settled : List Text → Option Settled
settled words = if list_any is_dashes words then None
    else where_taken (fault_of program words) (settled_by (matches_of program words) (subcommand_of program words))
