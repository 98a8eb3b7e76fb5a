-- What a byte may do in a text of SQL (the project's own rules, after PostgreSQL documentation, "Lexical Structure").
use Rattle.std.specs.Prelude.{ℕ, Bool, not, ◌||◌, ◌==◌}
use Rattle.std.specs.Char.{is_ascii_digit, is_ascii_alphabetic}

-- space, tab, carriage return, newline
abbrev pub is_blank : ℕ → Bool
is_blank b = b == 32 || b == 9 || b == 13 || b == 10

-- a letter or _
abbrev pub begins_name : ℕ → Bool
begins_name b = is_ascii_alphabetic b || b == 95

-- a letter, a digit, _ or $
abbrev pub is_in_name : ℕ → Bool
is_in_name b = is_ascii_alphabetic b || is_ascii_digit b || b == 95 || b == 36

-- anything but a newline
abbrev pub is_in_line : ℕ → Bool
is_in_line b = not (b == 10)

-- anything but a quote
abbrev pub is_plain : ℕ → Bool
is_plain b = not (b == 39)
