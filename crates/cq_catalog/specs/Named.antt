-- Tables under their names.
use Rattle.std.specs.Prelude.{◌≡◌, List, String, string_bytes}
use Rattle.std.specs.List.{AllByRecursion}
use Rattle.cq_catalog.specs.declared.info.TableInfo.{TableInfo}

-- each stands under its own name
abbrev pub AreNamed : {A : Type 0} → List (String A × TableInfo) → Type 0
AreNamed es = AllByRecursion (λ e. string_bytes e.0 ≡ e.1.name) es
