-- A distributed table's co-location group is there.
use Rattle.std.proofs.Common.{◌≡◌, ℕ, ◌<◌, length, Option, None, Some, refl, subst}
use Rattle.std.specs.Prelude.{slice_get}
use Rattle.cq_catalog.specs.Contents.{Contents, place_in}
use Rattle.cq_catalog.specs.Placement.{place_at}
use Rattle.cq_catalog.specs.Whole.{IsWhole, IsPlaced}
use Rattle.cq_catalog.specs.declared.info.Place.TheVariants.{Distributed}
use Rattle.cq_catalog.specs.declared.info.TableInfo.{TableInfo}

placed : (c : Contents) → IsWhole c → (t : ℕ) → IsPlaced c (place_at c t)
placed c w t = look (slice_get c.tables t) refl
  where
    look : (o : Option TableInfo) → slice_get c.tables t ≡ o → IsPlaced c (place_in o)
    look None e = tt
    look (Some i) e = (w.tables t i e).placed

pub colocation_there : (c : Contents) (t column colocation first_shard : ℕ) → IsWhole c → place_at c t ≡ Distributed column colocation first_shard → colocation < length c.colocations
colocation_there c t column colocation first_shard w e = (subst (IsPlaced c) e (placed c w t)).0
