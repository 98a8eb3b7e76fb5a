-- What some words settle.
use Rattle.std.proofs.Common.{◌≡◌, true, false, [], ◌∷◌, Some, None, codes, refl}
use Rattle.clap.proofs.OnLiterals.{clap_on_literals}
use Rattle.cq_words.specs.Words.{settled}

no_words : settled [] ≡ Some (record { workers = 2; repartition = false; csv = false; stop = false; journal = false; columnar = false; generate = None; chunks = None })
unfolding settled clap_on_literals
no_words = refl

all_words : settled (codes "--csv" ∷ codes "--workers" ∷ codes "007" ∷ codes "--journal" ∷ codes "--stop" ∷ codes "--repartition" ∷ codes "--columnar" ∷ codes "generate" ∷ codes "0" ∷ codes "100000" ∷ [])
    ≡ Some (record { workers = 7; repartition = true; csv = true; stop = true; journal = true; columnar = true; generate = Some (0, 100000); chunks = None })
unfolding settled clap_on_literals
all_words = refl

attached : settled (codes "--workers=16" ∷ []) ≡ Some (record { workers = 16; repartition = false; csv = false; stop = false; journal = false; columnar = false; generate = None; chunks = None })
unfolding settled clap_on_literals
attached = refl

no_workers : settled (codes "--workers" ∷ codes "0" ∷ []) ≡ None
unfolding settled clap_on_literals
no_workers = refl

twice : settled (codes "--csv" ∷ codes "--csv" ∷ []) ≡ None
unfolding settled clap_on_literals
twice = refl

help : settled (codes "--help" ∷ []) ≡ None
unfolding settled clap_on_literals
help = refl

short : settled (codes "-h" ∷ []) ≡ None
unfolding settled clap_on_literals
short = refl

dashes : settled (codes "--" ∷ []) ≡ None
unfolding settled clap_on_literals
dashes = refl

late : settled (codes "generate" ∷ codes "1" ∷ codes "2" ∷ codes "--csv" ∷ []) ≡ None
unfolding settled clap_on_literals
late = refl

no_rows : settled (codes "generate" ∷ codes "1" ∷ []) ≡ None
unfolding settled clap_on_literals
no_rows = refl

chunks : settled (codes "--columnar" ∷ codes "chunks" ∷ codes "2500" ∷ codes "0" ∷ codes "1500" ∷ []) ≡ Some (record { workers = 2; repartition = false; csv = false; stop = false; journal = false; columnar = true; generate = None; chunks = Some (2500, 0, 1500) })
unfolding settled clap_on_literals
chunks = refl

no_greatest : settled (codes "chunks" ∷ codes "10" ∷ codes "1" ∷ []) ≡ None
unfolding settled clap_on_literals
no_greatest = refl

too_many_chunks : settled (codes "chunks" ∷ codes "100001" ∷ codes "1" ∷ codes "1" ∷ []) ≡ None
unfolding settled clap_on_literals
too_many_chunks = refl

both_of_them : settled (codes "generate" ∷ codes "1" ∷ codes "2" ∷ codes "chunks" ∷ codes "10" ∷ codes "1" ∷ codes "2" ∷ []) ≡ None
unfolding settled clap_on_literals
both_of_them = refl
