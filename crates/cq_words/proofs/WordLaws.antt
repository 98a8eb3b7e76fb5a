-- What clap's answer says of the words.
use Rattle.std.proofs.Common.{◌≡◌, true, false, List, [], ◌∷◌, map, None, Option, ap₂, ◌∙◌, sym, subst, inl, inr, refl}
use Rattle.std.specs.List.{list_any}
use Rattle.clap.proofs.WalkLemmas.{list_any-map}
use Rattle.clap.specs.Words.{App, HasKind, IsAmong, Kinds, Row, Text, fault_of, is_simple_and_free, kind_of, matches_of, subcommand_of}
use Rattle.clap.specs.declared.error.Error.{Error}
use Rattle.clap.specs.declared.error.kind.ErrorKind.{ErrorKind}
use Rattle.clap.specs.declared.error.kind.ErrorKind.TheVariants.{OutOfMemory}
use Rattle.cq_words.specs.declared.error.WordsError.{WordsError}
use Rattle.cq_words.specs.declared.error.WordsError.TheVariants.{Usage, Memory}
use Rattle.cq_words.specs.declared.settled.Settled.{Settled}
use Rattle.cq_words.specs.Words.{IsRefused, is_dashes, program, settled, settled_by, where_taken}

refused_among : (k : ErrorKind) (ks : Kinds) → IsAmong k ks → IsRefused ks
refused_among k [] h = h
refused_among k (x ∷ xs) h = tt

refused : (e : Error) (w : WordsError) (ks : Kinds) → HasKind ks e → ((kind_of e ≡ OutOfMemory) → w ≡ Memory) → w ≡ Usage → IsRefused ks
refused e w ks (inl memory) gives usage = let m : w ≡ Memory = gives memory in absurd (cc)
refused e w ks (inr among) gives usage = refused_among (kind_of e) ks among

pub settled_dashes : {X : Type 0} (text : X → Text) (words : List X) → list_any (λ w. is_dashes (text w)) words ≡ true → settled (map text words) ≡ None
unfolding settled
settled_dashes text words h = rw (sym (list_any-map is_dashes text words) ∙ h) refl

pub settled_refused : {X : Type 0} (text : X → Text) (words : List X) → list_any (λ w. is_dashes (text w)) words ≡ false → IsRefused (fault_of program (map text words)) → settled (map text words) ≡ None
unfolding settled
settled_refused text words h refused = rw (sym (list_any-map is_dashes text words) ∙ h) (go (fault_of program (map text words)) refused)
  where
    go : (ks : Kinds) → IsRefused ks → where_taken ks (settled_by (matches_of program (map text words)) (subcommand_of program (map text words))) ≡ None
    go [] r = absurd r
    go (k ∷ ks) r = refl

pub settled_taken : {X : Type 0} (text : X → Text) (words : List X) (rows : List Row) (sub : Option (Text × List Row)) (s : Option Settled) → list_any (λ w. is_dashes (text w)) words ≡ false →
    fault_of program (map text words) ≡ [] → rows ≡ matches_of program (map text words) → sub ≡ subcommand_of program (map text words) → s ≡ settled_by rows sub → settled (map text words) ≡ s
unfolding settled
settled_taken text words rows sub s h none e f g = rw (sym (list_any-map is_dashes text words) ∙ h, none) (sym (g ∙ ap₂ settled_by e f))

-- clap's refusal of the words of the program's command
pub refused_by : (app : App) (words : List Text) (e : Error) (w : WordsError) → app ≡ program → (is_simple_and_free app ≡ true → HasKind (fault_of app words) e) → ((kind_of e ≡ OutOfMemory) → w ≡ Memory) →
    w ≡ Usage → IsRefused (fault_of program words)
refused_by app words e w is h gives usage =
    refused e w _ (subst (λ (a : App). is_simple_and_free a ≡ true → HasKind (fault_of a words) e) is h refl) gives usage
