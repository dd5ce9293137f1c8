-- An object that one of a side makes joins the side's part alike, in two states in which that is the same.
use Rattle.std.proofs.Common.{arith, ◌≡◌, ℕ, suc, ◌==◌, List, [], ◌∷◌, ◌++◌, length, refl, sym, ap, ap₂, ◌∙◌, subst, inl, inr}
use Rattle.std.specs.Prelude.{Bool, true, false, ◌≢◌, ◌⊎◌, Contains, is_some, slice_get, option_map, Option, Some, None, if◌then◌else◌}
use Rattle.std.specs.List.{find}
use Rattle.nova_guest.specs.declared.page.Page.{Page}
use Rattle.nova_objects.specs.declared.object.EcKind.TheVariants.{Global, Local, Vcpu}
use Rattle.nova_objects.specs.declared.object.Object.{Object}
use Rattle.nova_objects.specs.declared.object.Object.TheVariants.{Ec, Pt}
use Rattle.nova_range.specs.declared.range.Kind.{Kind}
use Rattle.nova_range.specs.declared.range.Kind.TheVariants.{Mem}
use Rattle.nova_model.specs.Capabilities.{is_ec, is_pt, is_sc, is_sm}
use Rattle.nova_model.specs.Creation.{budget_of, context_of, count_of, identifier_of, idle_semaphore, object_of, root_capability, transfer_of, words_of}
use Rattle.nova_model.specs.Delegations.{added, covers, page_in, reach}
use Rattle.nova_model.specs.Forest.{IsForest}
use Rattle.nova_model.specs.Lines.{line}
use Rattle.nova_model.specs.State.{Contexts, KernelState, entry, pd_in, pd_of}
use Rattle.nova_model.specs.declared.budget.Budget.{Budget}
use Rattle.nova_model.specs.declared.context.EcState.{EcState}
use Rattle.nova_model.specs.declared.delegation.Derivation.{Derivation}
use Rattle.nova_model.specs.declared.new_object.NewObject.{NewObject}
use Rattle.nova_model.specs.declared.new_object.NewObject.TheVariants as new
use Rattle.law_forest.specs.Effects.{Edit, Joins, edit_at}
use Rattle.law_forest.specs.Turns.{Turning, turned}
use Rattle.law_forest.proofs.Members.{IsIn, contains_from_in, found_in, in_from_contains}
use Rattle.law_forest.proofs.Scopes.{KeepsParents, more_keeps, next_childless}
use Rattle.law_turns.specs.Tables.{HasTables, has_words}
use Rattle.law_turns.proofs.Links.{place}
use Rattle.law_turns.proofs.Setting.{get_joined, get_last, joined_other, more_at, set_length}
use Rattle.law_turns.proofs.TablesKept.{contexts_length}
use Rattle.law_integrity.proofs.Entries.{same_length}
use Rattle.law_flow.specs.Flow.{AreAlike, AreDerivedAlike, DerivesWithin, Front, Held, IsCreatingAlone, IsSide, front_of, fronts, held_by, origin_of}
use Rattle.law_flow.proofs.Creating.{AreMaking, IsMadeOf}
use Rattle.law_flow.proofs.Doing.{frames_same, paid_same, shown_contexts, ticks_in}
use Rattle.law_flow.proofs.Giving.{find_joined, in_joined, spaces_joined, twin_covers}
use Rattle.law_flow.proofs.Holds.{IsTwin}
use Rattle.law_flow.proofs.Keeping.{AreWell, EditOwn, IsWell, QueueOwn, all_well}
use Rattle.law_flow.proofs.Origins.{either, or_else, origin_joined, origin_or}
use Rattle.law_flow.proofs.Seeing.{Both, pd_same, some_held}
use Rattle.law_flow.proofs.Sets.{line_alone, line_kept}
use Rattle.law_flow.proofs.Tables.{AreSame, edits_alike, fronts_alike}
use Rattle.law_flow.proofs.Taking.{derived_more}

-- ONE ENTRY MORE

joined_alike : {T : Type 0} (Q : ℕ → Type 0) (size : ℕ) (xs ys : List T) (x y : T) → length xs ≡ size → length ys ≡ size → y ≡ x → ((n : ℕ) → n ≢ size → Q n → slice_get ys n ≡ slice_get xs n) →
    AreSame Q (xs ++ x ∷ []) (ys ++ y ∷ [])
joined_alike {T} Q size xs ys x y first second one same n q = elim (place n size) [
  | inl is ↦
      ap (slice_get (ys ++ y ∷ [])) (is ∙ sym second) ∙ get_last ys y ∙ ap (λ (z : T). Some z) one ∙ sym (ap (slice_get (xs ++ x ∷ [])) (is ∙ sym first) ∙ get_last xs x)
  | inr other ↦
      joined_other ys y n (λ e. other (e ∙ second)) ∙ same n other q ∙ sym (joined_other xs x n (λ e. other (e ∙ first)))
]

fronts_joined : (cs : Contexts) (o : Option EcState) → fronts (cs ++ o ∷ []) ≡ fronts cs ++ option_map front_of o ∷ []
fronts_joined [] o = refl
fronts_joined (c ∷ cs) o = ap (λ (l : List (Option Front)). option_map front_of c ∷ l) (fronts_joined cs o)

fronts_length : (cs : Contexts) → length (fronts cs) ≡ length cs
fronts_length [] = refl
fronts_length (c ∷ cs) = ap (λ (n : ℕ). suc n) (fronts_length cs)

-- THE MAKER'S CAPABILITY

root_twin : (k l : KernelState) (S P : ℕ → Type 0) → Both k l S P → (ec target : ℕ) (made : NewObject) → P ec → length l.objects ≡ length k.objects →
    IsTwin (root_capability k (pd_of k ec) target (object_of made)) (root_capability l (pd_of l ec) target (object_of made))
root_twin k l S P b ec target made p size = record {
  pd = pd_same k l S P b ec p;
  held = ap (λ (n : ℕ). held_by (record (root_capability k (pd_of k ec) target (object_of made)) { target = n })) size;
}

root_keeps : (k : KernelState) (pd target : ℕ) (made : NewObject) → IsForest k.delegations → KeepsParents k.delegations.list (k.delegations.list ++ root_capability k pd target (object_of made) ∷ [])
root_keeps k pd target made forest = more_keeps k.delegations.list (root_capability k pd target (object_of made)) (next_childless k.delegations forest)

-- it comes of nothing but itself
root_origin : (k : KernelState) (pd target : ℕ) (made : NewObject) (list : List Derivation) (from : ℕ) →
    origin_of list from (Some (root_capability k pd target (object_of made))) ≡ either (pd == from) (held_by (root_capability k pd target (object_of made))) None
root_origin k pd target made list from =
    ap (λ (l : List Derivation). option_map held_by (find (λ (a : Derivation). a.pd == from) l)) (line_alone list (root_capability k pd target (object_of made)) refl) ∙ by_test (pd == from)
  where
    by_test : (t : Bool) → option_map held_by (if t then Some (root_capability k pd target (object_of made)) else None) ≡ either t (held_by (root_capability k pd target (object_of made))) None
    by_test true = refl
    by_test false = refl

origins_rooted : (k l : KernelState) (x y : Derivation) → KeepsParents k.delegations.list (k.delegations.list ++ x ∷ []) → KeepsParents l.delegations.list (l.delegations.list ++ y ∷ []) → (kind : Kind) (pd place from : ℕ) →
    IsTwin x y → origin_of (l.delegations.list ++ y ∷ []) from (Some y) ≡ origin_of (k.delegations.list ++ x ∷ []) from (Some x) →
    ◌≡◌ {A = Option Held} (option_map held_by (find (covers kind pd place) l.delegations.list)) (option_map held_by (find (covers kind pd place) k.delegations.list)) →
    origin_of l.delegations.list from (find (covers kind pd place) l.delegations.list) ≡ origin_of k.delegations.list from (find (covers kind pd place) k.delegations.list) →
    origin_of (l.delegations.list ++ y ∷ []) from (find (covers kind pd place) (l.delegations.list ++ y ∷ [])) ≡ origin_of (k.delegations.list ++ x ∷ []) from (find (covers kind pd place) (k.delegations.list ++ x ∷ []))
origins_rooted k l x y keeps also kind pd place from t own held origins =
    ap (origin_of (l.delegations.list ++ y ∷ []) from) (find_joined (covers kind pd place) l.delegations.list y)
    ∙ origin_joined l.delegations.list y also from (covers kind pd place y) (find (covers kind pd place) l.delegations.list) (λ d is. (found_in (covers kind pd place) l.delegations.list d is).0)
    ∙ ap₂ (λ (s : Bool) (u : Bool). origin_or s u (origin_of l.delegations.list from (find (covers kind pd place) l.delegations.list)) (origin_of (l.delegations.list ++ y ∷ []) from (Some y)))
    (some_held (find (covers kind pd place) l.delegations.list) (find (covers kind pd place) k.delegations.list) held) (twin_covers kind pd place x y t)
    ∙ ap₂ (origin_or (is_some (find (covers kind pd place) k.delegations.list)) (covers kind pd place x)) origins own
    ∙ sym (ap (origin_of (k.delegations.list ++ x ∷ []) from) (find_joined (covers kind pd place) k.delegations.list x)
    ∙ origin_joined k.delegations.list x keeps from (covers kind pd place x) (find (covers kind pd place) k.delegations.list) (λ d is. (found_in (covers kind pd place) k.delegations.list d is).0))

-- A TURN IN WHICH AN OBJECT IS MADE

-- by one of the maker's number, which holds its capability at a selector, and is itself edited so
abbrev pub born : KernelState → ℕ → ℕ → ℕ → NewObject → Edit → (ℕ → Bool) → Turning
born k ec sc target made edit stirs = record {
  effect = record {
    made = Some made;
    branch = Some (Joins (root_capability k (pd_of k ec) target (object_of made)));
    edits = (ec, edit) ∷ [];
    words = None;
    transfer = None;
    identifier = None;
    semaphore = None;
    store = None;
    deadline = None;
    rings = None;
  };
  stirs = stirs;
  charge = Some sc;
}

born_ticks : (stamp other : ℕ) (made : NewObject) → option_map (λ (b : Budget). b.ticks) (budget_of other made) ≡ option_map (λ (b : Budget). b.ticks) (budget_of stamp made)
born_ticks stamp other (new.Sc ec cpu priority quantum) = refl
born_ticks stamp other new.Pd = refl
born_ticks stamp other (new.Ec pd cpu kind sp event) = refl
born_ticks stamp other (new.Pt ec mtd ip) = refl
born_ticks stamp other (new.Sm count) = refl

-- lengths of tables
record AreLong (k : KernelState) (size : ℕ) : Type 0 where
  objects : length k.objects ≡ size
  contexts : length k.contexts ≡ size
  messages : length k.messages ≡ size
  transfers : length k.transfers ≡ size
  budgets : length k.budgets ≡ size
  identifiers : length k.identifiers ≡ size
  semaphores : length k.semaphores ≡ size
  deadlines : length k.times.deadlines ≡ size

long_tables : (k : KernelState) (size : ℕ) → HasTables k → length k.objects ≡ size → AreLong k size
long_tables k size t is = record {
  objects = is;
  contexts = contexts_length k t ∙ is;
  messages = same_length is_some has_words k.messages k.objects t.messages ∙ is;
  transfers = same_length is_some is_ec k.transfers k.objects t.transfers ∙ is;
  budgets = same_length is_some is_sc k.budgets k.objects t.budgets ∙ is;
  identifiers = same_length is_some is_pt k.identifiers k.objects t.identifiers ∙ is;
  semaphores = same_length is_some is_sm k.semaphores k.objects t.semaphores ∙ is;
  deadlines = t.deadlines ∙ is;
}

pub made_alike : (k l : KernelState) (S P : ℕ → Type 0) → Both k l S P → IsForest k.delegations → IsForest l.delegations → AreMaking k l S P → (cpu other ec sc target : ℕ) (made : NewObject) (edit : Edit) → P ec → (stirs others : ℕ → Bool) →
    AreAlike (turned k cpu (born k ec sc target made edit stirs)) (turned l other (born l ec sc target made edit others)) S P
made_alike k l S P b forest further m cpu other ec sc target made edit p stirs others = record {
  objects = joined_alike P size k.objects l.objects (object_of made) (object_of made) refl second.objects refl (λ n away q. b.alike.objects n q);
  fronts = λ n q.
      ap (λ (fs : List (Option Front)). slice_get fs n) (fronts_joined (answered_in l) (context_of (length l.objects) made))
      ∙ joined_alike P size (fronts (answered_in k)) (fronts (answered_in l)) (option_map front_of (context_of (length k.objects) made)) (option_map front_of (context_of (length l.objects) made))
      (fronts_length (answered_in k) ∙ long k ∙ first.contexts) (fronts_length (answered_in l) ∙ long l ∙ second.contexts)
      (ap (λ (i : ℕ). option_map front_of (context_of i made)) second.objects)
      (λ i away r. fronts_alike P k.contexts l.contexts ((ec, edit) ∷ []) b.alike.fronts i r) n q
      ∙ sym (ap (λ (fs : List (Option Front)). slice_get fs n) (fronts_joined (answered_in k) (context_of (length k.objects) made)));
  contexts = λ n q its.
      joined_alike Ours size (answered_in k) (answered_in l) (context_of (length k.objects) made) (context_of (length l.objects) made) (long k ∙ first.contexts) (long l ∙ second.contexts)
      (ap (λ (i : ℕ). context_of i made) second.objects)
      (λ i away r. edits_alike (λ j. P j × S (pd_of k j)) k.contexts l.contexts ((ec, edit) ∷ []) (shown_contexts k l S P b) i (r.0, was i away r.1)) n (q, its);
  messages = λ n q its.
      joined_alike Ours size k.messages l.messages (words_of (object_of made)) (words_of (object_of made)) first.messages second.messages refl (λ i away r. b.alike.messages i r.0 (was i away r.1)) n (q, its);
  transfers = λ n q its.
      joined_alike Ours size k.transfers l.transfers (transfer_of (object_of made)) (transfer_of (object_of made)) first.transfers second.transfers refl (λ i away r. b.alike.transfers i r.0 (was i away r.1)) n (q, its);
  identifiers = joined_alike P size k.identifiers l.identifiers (identifier_of made) (identifier_of made) first.identifiers second.identifiers refl (λ n away q. b.alike.identifiers n q);
  semaphores =
      joined_alike P size k.semaphores l.semaphores (option_map idle_semaphore (count_of made)) (option_map idle_semaphore (count_of made)) first.semaphores second.semaphores refl (λ n away q. b.alike.semaphores n q);
  ticks = λ n q. paid_same P (k.budgets ++ budget_of k.next_stamp made ∷ []) (l.budgets ++ budget_of l.next_stamp made ∷ []) sc _ _ _ _ ticks n q;
  deadlines = joined_alike P size k.times.deadlines l.times.deadlines None None first.deadlines second.deadlines refl (λ n away q. b.alike.deadlines n q);
  spaces = λ kind pd place its. spaces_joined kind pd place k.delegations.list l.delegations.list mine theirs twins (b.alike.spaces kind pd place its);
  origins = λ kind pd place from its theirs_.
      origins_rooted k l mine theirs (root_keeps k (pd_of k ec) target made forest) (root_keeps l (pd_of l ec) target made further) kind pd place from twins (own_origin from) (b.alike.spaces kind pd place its)
      (b.alike.origins kind pd place from its theirs_);
  frames = λ pd page to its leads. frames_same k l S P b to.frame (record { pd = pd; page = page; to = to; of = its; leads = led pd page to leads; its = refl });
  size = b.alike.size;
}
  where
    size : ℕ
    size = length k.objects

    mine : Derivation
    mine = root_capability k (pd_of k ec) target (object_of made)

    theirs : Derivation
    theirs = root_capability l (pd_of l ec) target (object_of made)

    twins : IsTwin (root_capability k (pd_of k ec) target (object_of made)) (root_capability l (pd_of l ec) target (object_of made))
    twins = root_twin k l S P b ec target made p m.alone.objects

    first : AreLong k (length k.objects)
    first = long_tables k (length k.objects) m.first refl

    second : AreLong l (length k.objects)
    second = long_tables l (length k.objects) m.second m.alone.objects

    answered_in : KernelState → Contexts
    answered_in j = edit_at j.contexts ec edit

    long : (j : KernelState) → length (edit_at j.contexts ec edit) ≡ length j.contexts
    long j = set_length j.contexts ec _

    Ours : ℕ → Type 0
    Ours n = P n × S (pd_in (slice_get (k.objects ++ object_of made ∷ []) n))

    was : (n : ℕ) → n ≢ length k.objects → S (pd_in (slice_get (k.objects ++ object_of made ∷ []) n)) → S (pd_of k n)
    was n away its = subst (λ (o : Option Object). S (pd_in o)) (joined_other k.objects (object_of made) n away) its

    ticks : (n : ℕ) → P n → ticks_in (l.budgets ++ budget_of l.next_stamp made ∷ []) n ≡ ticks_in (k.budgets ++ budget_of k.next_stamp made ∷ []) n
    ticks n q = elim (place n (length k.objects)) [
      | inl is ↦
          at_last l.budgets (budget_of l.next_stamp made) n (is ∙ sym second.budgets) ∙ born_ticks k.next_stamp l.next_stamp made
          ∙ sym (at_last k.budgets (budget_of k.next_stamp made) n (is ∙ sym first.budgets))
      | inr away ↦
          ap (λ (o : Option (Option Budget)). option_map (λ (b : Budget). b.ticks) (entry o)) (joined_other l.budgets (budget_of l.next_stamp made) n (λ e. away (e ∙ second.budgets)))
          ∙ b.alike.ticks n q
          ∙ sym (ap (λ (o : Option (Option Budget)). option_map (λ (b : Budget). b.ticks) (entry o)) (joined_other k.budgets (budget_of k.next_stamp made) n (λ e. away (e ∙ first.budgets))))
    ]
      where
        at_last : (bs : List (Option Budget)) (o : Option Budget) (n : ℕ) → n ≡ length bs → ticks_in (bs ++ o ∷ []) n ≡ option_map (λ (b : Budget). b.ticks) o
        at_last bs o n is = ap (ticks_in (bs ++ o ∷ [])) is ∙ ap (λ (u : Option (Option Budget)). option_map (λ (b : Budget). b.ticks) (entry u)) (get_last bs o)

    own_origin : (from : ℕ) → origin_of (l.delegations.list ++ theirs ∷ []) from (Some theirs) ≡ origin_of (k.delegations.list ++ mine ∷ []) from (Some mine)
    own_origin from =
        root_origin l (pd_of l ec) target made (l.delegations.list ++ theirs ∷ []) from
        ∙ ap₂ (λ (n : ℕ) (h : Held). either (n == from) h None) twins.pd twins.held
        ∙ sym (root_origin k (pd_of k ec) target made (k.delegations.list ++ mine ∷ []) from)

    led : (pd page : ℕ) (to : Page) → reach (k.delegations.list ++ mine ∷ []) pd page ≡ Some to → reach k.delegations.list pd page ≡ Some to
    led pd page to leads = by_found (find (covers Mem pd page) k.delegations.list) refl (sym (ap (option_map (page_in page)) (find_joined (covers Mem pd page) k.delegations.list mine)) ∙ leads)
      where
        by_found : (o : Option Derivation) → find (covers Mem pd page) k.delegations.list ≡ o → option_map (page_in page) (or_else o false mine) ≡ Some to → reach k.delegations.list pd page ≡ Some to
        by_found (Some d) at h = ap (option_map (page_in page)) at ∙ h
        by_found None at h = absurd (cc)

-- OF THE SIDE

pub new_well : (P : ℕ → Type 0) (number : ℕ) (made : NewObject) → IsWell P (context_of number made)
new_well P number (new.Ec pd cpu Local sp event) = record { waits = λ h is. absurd (cc); serves = λ c m is. absurd (cc); blocks = λ sm is. absurd (cc) }
new_well P number (new.Ec pd cpu Global sp event) = record { waits = λ h is. absurd (cc); serves = λ c m is. absurd (cc); blocks = λ sm is. absurd (cc) }
new_well P number (new.Ec pd cpu Vcpu sp event) = record { waits = λ h is. absurd (cc); serves = λ c m is. absurd (cc); blocks = λ sm is. absurd (cc) }
new_well P number new.Pd = record { waits = λ h is. absurd (cc); serves = λ c m is. absurd (cc); blocks = λ sm is. absurd (cc) }
new_well P number (new.Sc ec cpu priority quantum) = record { waits = λ h is. absurd (cc); serves = λ c m is. absurd (cc); blocks = λ sm is. absurd (cc) }
new_well P number (new.Pt ec mtd ip) = record { waits = λ h is. absurd (cc); serves = λ c m is. absurd (cc); blocks = λ sm is. absurd (cc) }
new_well P number (new.Sm count) = record { waits = λ h is. absurd (cc); serves = λ c m is. absurd (cc); blocks = λ sm is. absurd (cc) }

pub new_queue : (P : ℕ → Type 0) (made : NewObject) → QueueOwn P (option_map idle_semaphore (count_of made))
new_queue P (new.Sm count) n is = absurd (cc)
new_queue P new.Pd n is = absurd (cc)
new_queue P (new.Ec pd cpu kind sp event) n is = absurd (cc)
new_queue P (new.Sc ec cpu priority quantum) n is = absurd (cc)
new_queue P (new.Pt ec mtd ip) n is = absurd (cc)

pub new_handler : (P : ℕ → Type 0) (made : NewObject) (handler mtd ip : ℕ) → IsMadeOf P made → object_of made ≡ Pt handler mtd ip → P handler
new_handler P (new.Pt ec m i) handler mtd ip of is = let same : ec ≡ handler = cc in subst P same of
new_handler P new.Pd handler mtd ip of is = absurd (cc)
new_handler P (new.Ec pd cpu kind sp event) handler mtd ip of is = absurd (cc)
new_handler P (new.Sc ec cpu priority quantum) handler mtd ip of is = absurd (cc)
new_handler P (new.Sm count) handler mtd ip of is = absurd (cc)

pub made_side : (k : KernelState) (S P : ℕ → Type 0) → IsSide k S P → IsCreatingAlone k S P → (cpu ec sc target : ℕ) (made : NewObject) (edit : Edit) → IsMadeOf P made → EditOwn P edit → (stirs : ℕ → Bool) →
    IsSide (turned k cpu (born k ec sc target made edit stirs)) S P
made_side k S P side alone cpu ec sc target made edit of edits stirs = record {
  holds = λ d there s kind. elim (in_joined k.delegations.list mine d (in_from_contains (k.delegations.list ++ mine ∷ []) d there)) [
    | inl old ↦ side.holds d (contains_from_in k.delegations.list d old) s kind
    | inr same ↦ subst (λ (e : Derivation). P e.target) (sym same) last
  ];
  handlers = λ n handler mtd ip q is. elim (get_joined k.objects (object_of made) n (Pt handler mtd ip) is) [
    | inl old ↦ side.handlers n handler mtd ip q old
    | inr one ↦ new_handler P made handler mtd ip of one.1
  ];
  edges = λ n h q is. (well n q).waits h is;
  callers = λ n c came q is. (well n q).serves c came is;
  queues = λ sm n q is. more_at (QueueOwn P) k.semaphores (option_map idle_semaphore (count_of made)) sm (λ i there. side.queues sm i q there) (λ none. new_queue P made) n is;
  blocked = λ n sm q is. (well n q).blocks sm is;
  members = λ n pd its kind event is s. elim (get_joined k.objects (object_of made) n (Ec pd its kind event) is) [
    | inl old ↦ side.members n pd its kind event old s
    | inr one ↦ subst P (sym one.0) last
  ];
}
  where
    mine : Derivation
    mine = root_capability k (pd_of k ec) target (object_of made)

    last : P (length k.objects)
    last = alone.objects (length k.objects) (omega arith)

    well : AreWell P (edit_at k.contexts ec edit ++ context_of (length k.objects) made ∷ [])
    well n q =
        more_at (IsWell P) (edit_at k.contexts ec edit) (context_of (length k.objects) made) n
        (all_well P k.contexts ((ec, edit) ∷ []) (λ i r. record { waits = λ h is. side.edges i h r is; serves = λ c came is. side.callers i c came r is; blocks = λ sm is. side.blocked i sm r is }) (edits, tt) n q)
        (λ none. new_well P (length k.objects) made)

-- RANGES OF THE SIDE

pub rooted_derived : (k l m n : KernelState) (S P : ℕ → Type 0) → Both k l S P → IsForest k.delegations → IsForest l.delegations → IsForest m.delegations → IsForest n.delegations → (ec target : ℕ) (made : NewObject) → P ec → S (pd_of k ec) →
    length l.objects ≡ length k.objects → m.delegations ≡ added k.delegations (root_capability k (pd_of k ec) target (object_of made)) →
    n.delegations ≡ added l.delegations (root_capability l (pd_of l ec) target (object_of made)) → AreDerivedAlike k l S → AreDerivedAlike m n S
rooted_derived k l m n S P b first second third fourth ec target made p s size one other a =
    derived_more k l m n S third fourth (root_capability k (pd_of k ec) target (object_of made)) (root_capability l (pd_of l ec) target (object_of made)) (record {
      first = first;
      second = second;
      of = s;
      id = refl;
      twin_id = refl;
      twins = root_twin k l S P b ec target made p size;
      parents = λ d f t. refl;
      itself = refl;
    }) one other a

pub rooted_derives : (k m : KernelState) (S : ℕ → Type 0) → IsForest k.delegations → (pd target : ℕ) (made : NewObject) → m.delegations ≡ added k.delegations (root_capability k pd target (object_of made)) →
    DerivesWithin k S → DerivesWithin m S
rooted_derives k m S forest pd target made joins within d a there above s =
    by_set (in_joined k.delegations.list mine d (subst (λ f. IsIn f.list d) joins (in_from_contains m.delegations.list d there)))
  where
    mine : Derivation
    mine = root_capability k pd target (object_of made)

    up : Contains (line (k.delegations.list ++ root_capability k pd target (object_of made) ∷ []) d) a
    up = subst (λ f. Contains (line f.list d) a) joins above

    by_set : IsIn k.delegations.list d ⊎ (d ≡ root_capability k pd target (object_of made)) → S d.pd
    by_set (inl old) =
        within d a (contains_from_in k.delegations.list d old)
        (subst (λ (l : List Derivation). Contains l a) (line_kept k.delegations.list (k.delegations.list ++ mine ∷ []) (root_keeps k pd target made forest) (suc d.id) d old) up) s
    by_set (inr one) =
        by_line (in_from_contains (mine ∷ []) a (subst (λ (l : List Derivation). Contains l a) (ap (line (k.delegations.list ++ mine ∷ [])) one ∙ line_alone (k.delegations.list ++ mine ∷ []) mine refl) up))
      where
        by_line : IsIn (root_capability k pd target (object_of made) ∷ []) a → S d.pd
        by_line (inl same) = subst S (ap (λ (x : Derivation). x.pd) (sym same) ∙ ap (λ (x : Derivation). x.pd) (sym one)) s
        by_line (inr none) = absurd none
