-- The sessions of a block that run side by side over shard groups and workers, and what they leave.
use Rattle.std.specs.Prelude.{◌≡◌, ◌≢◌, ◌<◌, ◌≤◌, ◌^◌, ◌++◌, ⊤, ℕ, List, [], ◌∷◌, length, Option, Some, None, slice_get, vec_len, vec_capacity, Result, Ok, Err}
use Rattle.std.specs.List.{AllZip, AllByRecursion}
use Rattle.atomic_table.specs.Seated.{TableId}
use Rattle.cq_tree.specs.declared.journal.Who.{Who}
use Rattle.cq_tree.specs.declared.statement.Statement.{Statement}
use Rattle.cq_tree.specs.declared.statement.Statement.TheVariants.{Move, Select, Write}
use Rattle.cq_catalog.specs.Contents.{Contents}
use Rattle.cq_answer.specs.declared.answered.Answered.{Answered}
use Rattle.cq_answer.specs.declared.answered.Settings.{Settings}
use Rattle.cq_answer.specs.declared.fault.Fault.{Fault}
use Rattle.cq_store.specs.Stores.{StoreState}
use Rattle.cq_store.specs.declared.worker.Worker.{Worker}
use Rattle.cq_group.specs.declared.group.GroupState.{GroupState}
use Rattle.cq_group.specs.Resting.{journals_of}
use Rattle.cq_history.specs.Legality.{IsKeyed}
use Rattle.cq_history.specs.Phases.{who_of}
use Rattle.cq_history.specs.Refusals.{rules}
use Rattle.cq_reach.specs.Seen.{all_seen}
use Rattle.cq_groups.specs.Looking.{environment_at}
use Rattle.cq_groups.specs.Served.{IsWhole}
use Rattle.cq_cluster.specs.declared.retired.Retired.{Retired}
use Rattle.cq_shared.specs.Blocks.{MayShare, MaySpare}
use Rattle.cq_shared.specs.Seen.{Pass}
use Rattle.cq_block_laws.specs.Serving.{Opening}
use Rattle.cq_block_laws.specs.Closing.{Session, numbers_of, answers_of}
use Rattle.cq_block_laws.specs.Sessions.{Hands, AreServedBy, HasRun, ServesOne, retired_by}
use Rattle.cq_block_move.specs.Benches.{AreUnsent}
use Rattle.cq_block_move.specs.Hands.{AreHands, IsGround}
use Rattle.cq_block.specs.declared.drafts.Draft.{Draft}
use Rattle.cq_block.specs.declared.drafts.SessionDrafts.{SessionDrafts}
use Rattle.cq_block.specs.declared.legality.Ground.{Ground}
use Rattle.cq_block.specs.declared.session.Hands.{Hands as HeldHands}
use Rattle.cq_block.specs.declared.session.Session.{Session as Seat}
use Rattle.cq_block.specs.declared.session.ShardMove.{ShardMove}
use Rattle.cq_block.specs.Drafts.{MayStand}
use Rattle.cq_block.specs.Ground.{terms_of, IsGroundOf}
use Rattle.cq_session.specs.declared.copying.Reading.{Reading}
use Rattle.cq_session.specs.declared.texts.Response.{Response}
use Rattle.cq_session.specs.Responses.{IsReadAs, ReadsAs}
use Rattle.cq_session.specs.Shared.{bound_of}

-- ---- the statements of a session

-- a statement of this session, which may stand in a block
pub record IsDraftIn (c : Contents) (session : ℕ) (d : Draft) : Type 0 where
  pub own : d.placed.now.session ≡ session
  pub stands : MayStand c d.read

-- the answer to a statement, in a block under these settings
pub record IsAnswerTo (c : Contents) (settings : Settings) (d : Draft) (a : Answered) : Type 0 where
  pub session : a.session ≡ d.placed.now.session
  pub statement : a.statement ≡ d.placed.now.number
  pub phase : a.phase ≡ d.placed.now.phase
  pub given : a.settings ≡ settings
  pub bound : a.bound ≡ bound_of d.read
  pub reads : (text bytes : List ℕ) → IsReadAs a.session text bytes c.tables d.read → ReadsAs a.session a.bound a.answer text bytes c.tables

-- the answer that a response makes of a statement
pub record IsResponse (who : Who) (settings : Settings) (r : Response) (a : Answered) : Type 0 where
  pub by : who_of a ≡ who
  pub given : a.settings ≡ settings
  pub bound : a.bound ≡ r.bound
  pub answer : a.answer ≡ r.answer

-- a draft's statement
abbrev pub who_in : Draft → Who
who_in d = record { session = d.placed.now.session; statement = d.placed.now.number }

-- no two have one number
abbrev pub AreApart : List Draft → Type 0
AreApart [] = ⊤
AreApart (d ∷ drafts) = AllByRecursion (λ (e : Draft). e.placed.now.number ≢ d.placed.now.number) drafts × AreApart drafts

abbrev pub AreAnswersTo : Contents → Settings → List Draft → List Answered → Type 0
AreAnswersTo c settings drafts answers = AllZip (IsAnswerTo c settings) drafts answers

-- ---- what it holds

abbrev pub hands_of : {X : Type 0} → HeldHands X → Hands X (Ground X)
hands_of h = record { passes = h.passes.items; benches = h.benches.items; retired = h.retired.items }

-- hands of which a desk has the passes to the groups
abbrev pub at_desk : {X : Type 0} → List (Pass X (Ground X)) → HeldHands X → Hands X (Ground X)
at_desk passes h = record { passes = passes; benches = h.benches.items; retired = h.retired.items }

-- no statement of these has noted anything at workers
abbrev pub NoneSent : {X : Type 0} → List Draft → HeldHands X → Type 0
NoneSent drafts h = AllByRecursion (λ (d : Draft). AreUnsent (who_in d) h.benches.items) drafts

-- a query or a write, or no statement
abbrev pub IsPlain : Option Statement → Type 0
IsPlain None = ⊤
IsPlain (Some (Select q)) = ⊤
IsPlain (Some (Write op)) = ⊤
IsPlain bound = ⊥

-- the move that a statement was read as
abbrev pub move_by : Statement → Option ShardMove
move_by (Move shard from to) = Some (record { shard = shard; from = from; to = to })
move_by s = None

abbrev pub move_in : Result Reading Fault → Option ShardMove
move_in (Ok r) = move_by r.statement
move_in (Err f) = None

-- a block is opened so: under the catalogue and these settings, for sessions of these numbers, over journals of its groups
pub record IsOpeningFor (c : Contents) (settings : Settings) (numbers : List ℕ) (o : Opening) : Type 0 where
  pub retired : List ℕ
  pub environment : o.environment ≡ environment_at c settings retired
  pub sessions : o.sessions ≡ numbers
  pub groups : c.groups ≤ length o.journals

module _ {X : Type 0} (state : X → StoreState) (c : Contents) (nodes : ℕ) where
  -- the groups of the catalogue and the workers of the run, which sessions may share over this ground
  pub record MayRun (rule : Ground X) (groups : List (GroupState X)) (workers : List (Worker X)) : Type 0 where
    pub over : IsGroundOf nodes c groups workers rule
    pub share : AllByRecursion (MayShare state (terms_of state) rule) groups
    pub spare : AllByRecursion (MaySpare state (terms_of state) rule) workers
    pub ground : IsGround state (terms_of state) c nodes rule groups workers
    pub whole : IsWhole c nodes (all_seen groups)
    pub numbered : (g : ℕ) (x : GroupState X) → slice_get groups g ≡ Some x → x.journal.group ≡ g
    pub few : length groups < 2 ^ 32
    pub some : 0 < nodes
    pub keyed : (table : ℕ) → IsKeyed c table

  -- a session's hands between two statements
  pub record IsSeated (cells stalls : List TableId) (numbers : List ℕ) (n : ℕ) (h : HeldHands X) : Type 0 where
    pub hands : AreHands state (terms_of state) c nodes cells stalls numbers n (hands_of h)
    pub may : MayRun hands.rule hands.opened hands.workers

  -- a session before its first statement, with room for its answers and for the stores that its moves may retire
  pub record IsWaiting (cells stalls : List TableId) (numbers : List ℕ) (s : Seat X) : Type 0 where
    pub seated : IsSeated cells stalls numbers s.number s.hands
    pub drafts : AllByRecursion (IsDraftIn c s.number) s.drafts.items
    pub apart : AreApart s.drafts.items
    pub unsent : NoneSent s.drafts.items s.hands
    pub none : s.log.items ≡ []
    pub room : vec_len s.drafts ≤ vec_capacity s.log
    pub nothing : s.hands.retired.items ≡ []
    pub space : vec_len s.drafts ≤ vec_capacity s.hands.retired

  -- a statement is served, in each block that is opened so
  abbrev pub Serves : Settings → List ℕ → Answered → HeldHands X → HeldHands X → Type 0
  Serves settings numbers a old new = (o : Opening) → IsOpeningFor c settings numbers o → ServesOne state (terms_of state) rules nodes o a (hands_of old) (hands_of new)

  -- a session behind its last statement
  pub record HasServed (settings : Settings) (cells stalls : List TableId) (numbers : List ℕ) (s t : Seat X) : Type 0 where
    pub number : t.number ≡ s.number
    pub served : (o : Opening) → IsOpeningFor c settings numbers o → AreServedBy state (terms_of state) rules nodes o (hands_of s.hands) t.log.items (hands_of t.hands)
    pub answered : AreAnswersTo c settings s.drafts.items t.log.items
    pub seated : IsSeated cells stalls numbers t.number t.hands
    pub few : length t.hands.retired.items ≤ length s.drafts.items

  -- ---- a block

  -- a session's number, and the answers to its statements
  pub record IsDone (settings : Settings) (one : SessionDrafts) (s : Session) : Type 0 where
    pub number : s.number ≡ one.session
    pub answers : AreAnswersTo c settings one.drafts.items s.answers

  -- a block's sessions were run over these groups and workers, these came back, and the answers and the retired stores were put last
  pub record HasRunSessions (settings : Settings) (sessions : List SessionDrafts) (groups closed : List (GroupState X)) (workers returned : List (Worker X)) (before after : List Answered) (retired now : List (Retired X)) : Type 0 where
    pub done : List Session
    pub are : AllZip (IsDone settings) sessions done
    pub log : after ≡ before ++ answers_of done
    pub ran : (o : Opening) → IsOpeningFor c settings (numbers_of done) o → o.journals ≡ journals_of groups →
        (r : HasRun state (terms_of state) rules nodes o groups workers done closed returned) × IsGroundOf nodes c groups workers r.shared_by × (now ≡ retired ++ retired_by r.lasts)
