-- What a write can be replied.
use Rattle.std.specs.Prelude.{◌≡◌, ⊤, length}
use Rattle.cq_tree.specs.declared.write.ShardOp.{ShardOp}
use Rattle.cq_tree.specs.declared.write.ShardOp.TheVariants.{Insert, Update, Remove}
use Rattle.cq_tree.specs.declared.write.Reply.{Reply}
use Rattle.cq_tree.specs.declared.write.Reply.TheVariants.{Count, Duplicate, OutOfRange}

-- the write is made, and its rows are counted
abbrev pub IsMade : Reply → Type 0
IsMade (Count n) = ⊤
IsMade Duplicate = ⊥
IsMade OutOfRange = ⊥

abbrev pub IsRefusal : Reply → Type 0
IsRefusal (Count n) = ⊥
IsRefusal Duplicate = ⊤
IsRefusal OutOfRange = ⊤

-- a made INSERT counts its rows. Only an INSERT meets a key that is taken, and only an UPDATE a number out of range
abbrev pub IsReplyTo : ShardOp → Reply → Type 0
IsReplyTo (Insert table rows) (Count n) = n ≡ length rows
IsReplyTo (Insert table rows) Duplicate = ⊤
IsReplyTo (Insert table rows) OutOfRange = ⊥
IsReplyTo (Update table filter_ sets) (Count n) = ⊤
IsReplyTo (Update table filter_ sets) Duplicate = ⊥
IsReplyTo (Update table filter_ sets) OutOfRange = ⊤
IsReplyTo (Remove table filter_) (Count n) = ⊤
IsReplyTo (Remove table filter_) Duplicate = ⊥
IsReplyTo (Remove table filter_) OutOfRange = ⊥
