-- Runs of bytes that only join what was begun where they stand: none of them ends it, or opens or closes a text. In a statement none of
-- them ends a line; in data lines may end.
use Rattle.std.specs.Prelude.{ℕ, Bool, not, ◌&&◌, ◌==◌, if◌then◌else◌, List, [], ◌∷◌, ◌++◌, fold}
use Rattle.std.specs.List.{prefix_len}
use Rattle.cq_token.specs.Bytes.{is_in_line}
use Rattle.cq_script.specs.declared.scan.Scan.TheVariants.{Code, Dash, Comment, Quote}
use Rattle.cq_script.specs.Streams.{counted}
use Rattle.cq_script.specs.declared.cutter.Line.{Line}
use Rattle.cq_script.specs.declared.cutter.Line.TheVariants.{Start, Slash, End, Within}
use Rattle.cq_script.specs.declared.cutter.Place.{Place}
use Rattle.cq_script.specs.declared.cutter.Place.TheVariants.{Gap, GapDash, GapComment, Text, Rest, Data, Directive, Out}
use Rattle.cq_script.specs.declared.cutter.Cutter.{Cutter}

-- neither ' (39), nor - (45), nor ; (59), nor a newline (10)
abbrev pub is_plain_code : ℕ → Bool
is_plain_code b = ((not (b == 39) && not (b == 45)) && not (b == 59)) && not (b == 10)

-- neither ' nor a newline
abbrev pub is_plain_quoted : ℕ → Bool
is_plain_quoted b = not (b == 39) && not (b == 10)

-- no backslash (92)
abbrev pub is_plain_data : ℕ → Bool
is_plain_data b = not (b == 92)

-- how many bytes of the front are such where the script stands
abbrev pub run_len : Place → List ℕ → ℕ
run_len (Text Code) bytes = prefix_len is_plain_code bytes
run_len (Text Dash) bytes = 0
run_len (Text Comment) bytes = prefix_len is_in_line bytes
run_len (Text Quote) bytes = prefix_len is_plain_quoted bytes
run_len (Data Start) bytes = prefix_len is_plain_data bytes
run_len (Data Slash) bytes = 0
run_len (Data End) bytes = 0
run_len (Data Within) bytes = prefix_len is_plain_data bytes
run_len (Gap fresh) bytes = 0
run_len GapDash bytes = 0
run_len GapComment bytes = 0
run_len Rest bytes = 0
run_len Directive bytes = 0
run_len Out bytes = 0

abbrev pub is_line_end : ℕ → Bool
is_line_end b = b == 10

-- where the line of data stands behind them
abbrev pub data_line : Line → List ℕ → Line
data_line line [] = line
data_line line (b ∷ bs) = data_line (if b == 10 then Start else Within) bs

-- the number of the line behind them
abbrev pub number_behind : ℕ → List ℕ → ℕ
number_behind number bytes = fold (λ n b. if b == 10 then counted n else n) number bytes

-- behind them
abbrev pub with_run : Place → Cutter → List ℕ → Cutter
with_run (Text scan) c run = record c { text = c.text ++ run }
with_run (Data line) c run = record c { at = Data (data_line line run); line = number_behind c.line run; copied = c.copied ++ run }
with_run (Gap fresh) c run = c
with_run GapDash c run = c
with_run GapComment c run = c
with_run Rest c run = c
with_run Directive c run = c
with_run Out c run = c
