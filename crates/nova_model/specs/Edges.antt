-- Donation: an execution context that waits for a handler has an edge to it, and its turns go along edges to the context that acts. (Steinberg and
-- Kauer, NOVA, EuroSys 2010, for donation; that a caller helps a busy handler is this project's own rule.)
use Rattle.std.specs.Prelude.{ℕ, zero, suc, ⊤, ◌≡◌, ◌≢◌, ◌==◌, ◌||◌, Bool, true, false, List, [], ◌∷◌, length, Option, Some, None, is_none, option_map, option_and_then}
use Rattle.std.specs.List.{find, list_any}
use Rattle.nova_model.specs.Numbers.{EcId, CpuId}
use Rattle.nova_model.specs.State.{Contexts, ec_in}
use Rattle.nova_model.specs.declared.context.Mark.{Mark}
use Rattle.nova_model.specs.declared.context.State.{State}
use Rattle.nova_model.specs.declared.context.State.TheVariants.{Fresh, Ready, Parked, Calling, Helping, Exiting, Sending, Granting, Replying, Revoking, Blocked, Dead}

abbrev pub state_in : Contexts → EcId → Option State
state_in cs e = option_map (λ x. x.state) (ec_in cs e)

abbrev pub cpu_in : Contexts → EcId → Option CpuId
cpu_in cs e = option_map (λ x. x.cpu) (ec_in cs e)

-- the handler that an execution context in this state waits for
abbrev pub edge_of : State → Option EcId
edge_of (Calling h) = Some h
edge_of (Helping h) = Some h
edge_of (Sending reason q0 q1 h) = Some h
edge_of other = None

abbrev pub edge : Contexts → EcId → Option EcId
edge cs e = option_and_then edge_of (state_in cs e)

-- a handler of which nothing more will come; a handler that takes a message, or of which nothing more will come
abbrev pub is_dead : Option State → Bool
is_dead (Some Dead) = true
is_dead other = false

abbrev pub is_free : Option State → Bool
is_free (Some Parked) = true
is_free (Some Dead) = true
is_free other = false

-- an execution context in this state acts, where that of its handler is the second
abbrev pub acts_by : State → Option State → Bool
acts_by Fresh handler = true
acts_by Ready handler = true
acts_by Parked handler = false
acts_by (Calling h) handler = is_dead handler
acts_by (Helping h) handler = is_free handler
acts_by (Exiting reason q0 q1) handler = true
acts_by (Sending reason q0 q1 h) handler = is_free handler
acts_by (Granting new) handler = true
acts_by Replying handler = true
acts_by (Revoking range own) handler = true
acts_by (Blocked sm) handler = false
acts_by Dead handler = false

-- the states in which items are given: a creator gives a first range; a handler takes the items of a call, and gives those of its reply
abbrev pub is_giving : State → Bool
is_giving (Granting new) = true
is_giving Replying = true
is_giving other = false

-- the states in which a hypercall is made: before an instruction, and while helping, when the call is made again
abbrev pub is_asking : State → Bool
is_asking Ready = true
is_asking (Helping handler) = true
is_asking other = false

abbrev pub acts_as : Contexts → Option State → Bool
acts_as cs None = false
acts_as cs (Some s) = acts_by s (option_and_then (state_in cs) (edge_of s))

abbrev pub acts : Contexts → EcId → Bool
acts cs e = acts_as cs (state_in cs e)

-- the contexts met by following edges from `e`, itself first; at most `n`
abbrev pub met_within : ℕ → (EcId → Option EcId) → Option EcId → List EcId
met_within zero edges e = []
met_within (suc n) edges None = []
met_within (suc n) edges (Some e) = e ∷ met_within n edges (edges e)

-- all that are met: no circle, so never more than there are
abbrev pub met : Contexts → EcId → List EcId
met cs e = met_within (length cs) (edge cs) (Some e)

-- following edges from `h` meets `e`; `h` itself counts as met
abbrev pub circle : Contexts → EcId → EcId → Bool
circle cs h e = list_any (λ x. e == x) (met cs h)

-- turns stay with a context that acts, and with a context that has no edge
abbrev pub stays : Contexts → EcId → Bool
stays cs e = acts cs e || is_none (edge cs e)

abbrev pub or_itself : EcId → Option EcId → EcId
or_itself e None = e
or_itself e (Some f) = f

-- the first that is met with which turns stay
abbrev pub chase : Contexts → EcId → EcId
chase cs e = or_itself e (find (stays cs) (met cs e))

-- the context that is met after `n` edges
abbrev pub after_edges : ℕ → (EcId → Option EcId) → EcId → Option EcId
after_edges zero edges e = Some e
after_edges (suc n) edges e = option_and_then (after_edges n edges) (edges e)

-- edges join execution contexts of one processor, and never lead back to where they began
pub record AreEdges (cs : Contexts) : Type 0 where
  pub one_processor : (e h : EcId) → edge cs e ≡ Some h → cpu_in cs h ≡ cpu_in cs e
  pub no_circle : (e n : ℕ) → after_edges (suc n) (edge cs) e ≢ Some e

-- a new edge stays on one processor and closes no circle
pub record IsNewEdge (cs : Contexts) (e h : ℕ) : Type 0 where
  pub one_processor : cpu_in cs h ≡ cpu_in cs e
  pub no_circle : circle cs h e ≡ false

-- an edge to be, of a context that is there
abbrev pub MayWait : Contexts → EcId → Option EcId → Type 0
MayWait cs e None = ⊤
MayWait cs e (Some h) = IsNewEdge cs e h

-- the caller that an execution context serves, with its mark
abbrev pub caller_in : Contexts → EcId → Option (EcId × Mark)
caller_in cs e = option_and_then (λ x. x.caller) (ec_in cs e)

-- callers are there, and on one processor with the contexts that serve them
abbrev pub AreCallers : Contexts → Type 0
AreCallers cs = (e c : ℕ) (mark : Mark) → caller_in cs e ≡ Some (c, mark) → cpu_in cs c ≡ cpu_in cs e

-- a caller to be, of a context that is there
abbrev pub MayServe : Contexts → EcId → Option (EcId × Mark) → Type 0
MayServe cs e None = ⊤
MayServe cs e (Some (c, mark)) = cpu_in cs c ≡ cpu_in cs e
