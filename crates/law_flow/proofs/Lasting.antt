-- A side that creates stays apart from others in a turn in which nobody else makes an object.
use Rattle.std.proofs.Common.{arith, ◌≡◌, ◌⊎◌, ℕ, suc, ◌+◌, List, [], ◌∷◌, ◌++◌, length, refl, sym, ap, ap₂, ◌∙◌, subst, inl, inr}
use Rattle.std.specs.Prelude.{Bool, true, false, ◌&&◌, nat_lt, slice_get, Some, None}
use Rattle.nova_objects.specs.ObjectTables.{is_domain}
use Rattle.nova_objects.specs.declared.object.Object.{Object}
use Rattle.nova_objects.specs.declared.object.Object.TheVariants.{Pd}
use Rattle.nova_range.specs.declared.status.Status.TheVariants.{Success}
use Rattle.nova_model.specs.Boot.{Scenario, boot}
use Rattle.nova_model.specs.Creation.{object_of}
use Rattle.nova_model.specs.Deeds.{deed}
use Rattle.nova_model.specs.Inputs.{is_stirred}
use Rattle.nova_model.specs.Lines.{line}
use Rattle.nova_model.specs.Runs.{after, run}
use Rattle.nova_model.specs.State.{KernelState, pd_of}
use Rattle.nova_model.specs.declared.context.State.TheVariants.{Granting}
use Rattle.nova_model.specs.declared.deed.Deed.{Deed}
use Rattle.nova_model.specs.declared.deed.Deed.TheVariants as deeds
use Rattle.nova_model.specs.declared.new_object.NewObject.{NewObject}
use Rattle.nova_model.specs.declared.new_object.NewObject.TheVariants as new_object
use Rattle.law_forest.specs.Effects.{Answers, Becomes, Edit, branch_by, branched, made_by}
use Rattle.law_forest.specs.Turns.{turned}
use Rattle.law_forest.proofs.Members.{contains_from_in, in_from_contains}
use Rattle.law_turns.proofs.Setting.{get_joined, joined_length}
use Rattle.law_isolation.specs.Sound.{IsSound}
use Rattle.law_isolation.proofs.Runs.{reached_sound}
use Rattle.law_integrity.specs.Confined.{IsMember, Of, more}
use Rattle.law_integrity.specs.Integrity.{Creates, Gives, GrowsByRight, Keeps, Takes}
use Rattle.law_integrity.proofs.Authorised.{authorised_by}
use Rattle.law_integrity.proofs.Confining.{object_kept}
use Rattle.law_integrity.proofs.Homes.{AreHomed, reached_homed}
use Rattle.law_flow.specs.Flow.{DerivesWithin, IsAtWork, IsCreatingAlone, IsPartitioned, IsSide, RevokesNothing, domains, existing, own_turn}
use Rattle.law_flow.proofs.Creating.{IsMadeOf}
use Rattle.law_flow.proofs.Doing.{by_deed}
use Rattle.law_flow.proofs.Existing.{domain_at, existing_below, in_domains, in_existing, is_below, none_domains, of_domains, of_existing, past_is}
use Rattle.law_flow.proofs.Grown.{AreWider, grown_side}
use Rattle.law_flow.proofs.Growing.{grown_partitioned}
use Rattle.law_flow.proofs.Guarding.{GoesOn, next_partitioned, none_made_by, others_derive}
use Rattle.law_flow.proofs.Keeping.{EditOwn}
use Rattle.law_flow.proofs.Making.{born, rooted_derives}
use Rattle.law_flow.proofs.Numbers.{alone_more, alone_same}
use Rattle.law_flow.proofs.Own.{own_goes_by}
use Rattle.law_flow.proofs.Pairs.{Alone, IsOwnDeed, Leaf, New, Open, Part, first_made, never, opens_well, own_derives}
use Rattle.law_flow.proofs.Sets.{line_in}
use Rattle.law_flow.proofs.Tables.{unjoined}
use Rattle.law_flow.proofs.Turns.{IsOwnTurn, own_acts, own_is, own_turned, work_as}
use Rattle.law_flow.proofs.Whole.{homed_next, own_domains}
use Rattle.law_flow.proofs.Within.{own_at, own_member}

-- RANGES OF DOMAINS THAT ARE THERE

derives_there : (k : KernelState) (S : ℕ → Bool) → AreHomed k → DerivesWithin k (Of S) → DerivesWithin k (Of (domains k S))
derives_there k S homed within d a there above s = in_domains k S d.pd (within d a there above (of_domains k S a.pd s)) (homed.holders d there)

derives_all : (k new : KernelState) (S : ℕ → Bool) → AreHomed new → new.objects ≡ k.objects → DerivesWithin new (Of (domains k S)) → DerivesWithin new (Of S)
derives_all k new S homed same within d a there above s =
    let i = line_in new.delegations.list (suc d.id) d a (in_from_contains new.delegations.list d there) (in_from_contains (line new.delegations.list d) a above) in
    of_domains k S d.pd (within d a there above (in_domains k S a.pd s (sym (ap (λ (os : List Object). slice_get os a.pd) same) ∙ homed.holders a (contains_from_in new.delegations.list a i))))

-- WHAT IS ASKED

-- A side that creates alone is partitioned off with what is there.
pub record IsCreatingApart (k : KernelState) (S P : ℕ → Bool) (T : ℕ → Type 0) : Type 0 where
  pub part : IsPartitioned k (Of (domains k S)) T (Of (existing k P))
  pub alone : IsCreatingAlone k (Of S) (Of P)

-- where no object is made the domains and objects that are there are the same
as_before : (k new : KernelState) (S P : ℕ → Bool) (T : ℕ → Type 0) → new.objects ≡ k.objects → IsPartitioned new (Of (domains k S)) T (Of (existing k P)) → IsPartitioned new (Of (domains new S)) T (Of (existing new P))
as_before k new S P T same c =
    subst (λ (os : List Object). IsPartitioned new (Of (λ n. S n && is_domain (slice_get os n))) T (Of (λ n. P n && nat_lt n (length os)))) (sym same) c

-- A TURN OF OTHERS, OR OF NOBODY

pub others_last : (s : Scenario) (before : List ℕ) (S P : ℕ → Bool) (T : ℕ → Type 0) (cpu : ℕ) → IsCreatingApart (run (boot s) before) S P T → own_turn S (run (boot s) before) cpu ≡ None →
    GoesOn (run (boot s) before) (after (run (boot s) before) cpu) (Of (domains (run (boot s) before) S)) (Of (existing (run (boot s) before) P)) → (after (run (boot s) before) cpu).objects ≡ (run (boot s) before).objects →
    IsCreatingApart (after (run (boot s) before) cpu) S P (more (run (boot s) before) T cpu)
others_last s before S P T cpu c none on same =
    let k = run (boot s) before in
    record {
      part = as_before k (after k cpu) S P (more k T cpu) same (next_partitioned s before (domains k S) (existing k P) T cpu c.part on (none_made_by (domains k S) k cpu (none_domains k S cpu none)));
      alone = alone_same k (after k cpu) (Of S) (Of P) same c.alone;
    }

pub others_derive_last : (s : Scenario) (before : List ℕ) (S P : ℕ → Bool) (T : ℕ → Type 0) (cpu : ℕ) → IsCreatingApart (run (boot s) before) S P T → own_turn S (run (boot s) before) cpu ≡ None →
    (after (run (boot s) before) cpu).objects ≡ (run (boot s) before).objects → DerivesWithin (run (boot s) before) (Of S) → DerivesWithin (after (run (boot s) before) cpu) (Of S)
others_derive_last s before S P T cpu c none same within =
    let k = run (boot s) before in
    derives_all k (after k cpu) S (homed_next s before cpu) same
    (others_derive s before (domains k S) (existing k P) T cpu c.part (none_domains k S cpu none) (derives_there k S (reached_homed s before) within))

-- ONE OF ITS OWN

pub own_deed_there : (timed : Type 0) (revokes : Bool) (s : Scenario) (before : List ℕ) (S P : ℕ → Bool) (T : ℕ → Type 0) (cpu ec sc : ℕ) → IsCreatingApart (run (boot s) before) S P T → own_turn S (run (boot s) before) cpu ≡ Some (ec, sc) →
    IsAtWork timed (RevokesNothing (run (boot s) before) (Of S)) (revokes ≡ true) (true ≡ true) (run (boot s) before) ec → (revokes ≡ true → DerivesWithin (run (boot s) before) (Of S)) →
    IsOwnDeed timed (true ≡ true) (run (boot s) before) (Of (domains (run (boot s) before) S)) (Of (existing (run (boot s) before) P)) (deed (run (boot s) before) ec)
own_deed_there timed revokes s before S P T cpu ec sc c own works within =
    let k = run (boot s) before in
    own_at timed (revokes ≡ true) (true ≡ true) (domains k S) (existing k P) T k cpu ec sc (reached_sound s before) c.part (own_domains S k cpu ec sc (reached_sound s before) own)
    (work_as timed timed (RevokesNothing k (Of S)) (RevokesNothing k (Of (domains k S))) (revokes ≡ true) (revokes ≡ true) (true ≡ true) (true ≡ true) k ec (λ h. h)
    (λ gives none n range its_own state s_pd. none n range its_own state (of_domains k S (pd_of k n) s_pd)) (λ h. h) (λ h. h) works)
    (λ yes. derives_there k S (reached_homed s before) (within yes))

-- the part that it may make joins what is there
pub own_lasts : (timed : Type 0) (s : Scenario) (before : List ℕ) (S P : ℕ → Bool) (T : ℕ → Type 0) (cpu ec sc : ℕ) → IsCreatingApart (run (boot s) before) S P T → own_turn S (run (boot s) before) cpu ≡ Some (ec, sc) →
    IsOwnDeed timed (true ≡ true) (run (boot s) before) (Of (domains (run (boot s) before) S)) (Of (existing (run (boot s) before) P)) (deed (run (boot s) before) ec) →
    IsCreatingApart (after (run (boot s) before) cpu) S P (more (run (boot s) before) T cpu)
own_lasts timed s before S P T cpu ec sc c own mine = by_mine mine
  where
    k : KernelState
    k = run (boot s) before

    new : KernelState
    new = after (run (boot s) before) cpu

    sound : IsSound (run (boot s) before)
    sound = reached_sound s before

    homed : AreHomed (run (boot s) before)
    homed = reached_homed s before

    own_there_ : own_turn (domains (run (boot s) before) S) (run (boot s) before) cpu ≡ Some (ec, sc)
    own_there_ = own_domains S k cpu ec sc sound own

    its : IsOwnTurn (domains (run (boot s) before) S) (run (boot s) before) cpu ec sc
    its = own_is (domains k S) k cpu ec sc own_there_

    is : after (run (boot s) before) cpu ≡ turned (run (boot s) before) cpu (by_deed (run (boot s) before) ec sc (deed (run (boot s) before) ec) (is_stirred (run (boot s) before) ec (deed (run (boot s) before) ec)))
    is = own_turned (domains k S) k cpu ec sc its

    still : IsOwnDeed timed (false ≡ true) (run (boot s) before) (Of (domains (run (boot s) before) S)) (Of (existing (run (boot s) before) P)) (deed (run (boot s) before) ec) →
        IsCreatingApart (after (run (boot s) before) cpu) S P (more (run (boot s) before) T cpu)
    still m =
        let objects : new.objects ≡ k.objects =
        ap (λ (l : KernelState). l.objects) is ∙ unjoined k.objects object_of (made_by (deed k ec)) (first_made timed (false ≡ true) k (Of (domains k S)) (Of (existing k P)) (deed k ec) never m) in
        record {
          part = as_before k new S P (more k T cpu) objects (own_goes_by timed s before (domains k S) (existing k P) T cpu ec sc c.part own_there_ m);
          alone = alone_same k new (Of S) (Of P) objects c.alone;
        }

    member : IsMember (run (boot s) before) (Of (domains (run (boot s) before) S)) ec
    member = own_member (domains k S) k cpu ec sc sound own_there_

    with_deed : (d : Deed) → deed (run (boot s) before) ec ≡ d → after (run (boot s) before) cpu ≡ turned (run (boot s) before) cpu (by_deed (run (boot s) before) ec sc d (is_stirred (run (boot s) before) ec (deed (run (boot s) before) ec)))
    with_deed d does = is ∙ ap (λ (x : Deed). turned k cpu (by_deed k ec sc x (is_stirred k ec (deed k ec)))) does

    grown : (target : ℕ) (made : NewObject) (edit : Edit) → after (run (boot s) before) cpu ≡ turned (run (boot s) before) cpu (born (run (boot s) before) ec sc target made edit (is_stirred (run (boot s) before) ec (deed (run (boot s) before) ec))) →
        IsMadeOf (Of (existing (run (boot s) before) P)) made → EditOwn (Of (existing (run (boot s) before) P)) edit → IsCreatingApart (after (run (boot s) before) cpu) S P (more (run (boot s) before) T cpu)
    grown target made edit as_made of edits = by_grows (authorised_by s before cpu ec (own_acts (domains k S) k cpu ec sc its)).2.grows
      where
        objects : (after (run (boot s) before) cpu).objects ≡ (run (boot s) before).objects ++ object_of made ∷ []
        objects = ap (λ (l : KernelState). l.objects) as_made

        longer : length (after (run (boot s) before) cpu).objects ≡ length (run (boot s) before).objects + 1
        longer = ap (λ (os : List Object). length os) objects ∙ joined_length k.objects (object_of made)

        not_same : (after (run (boot s) before) cpu).objects ≡ (run (boot s) before).objects → ⊥
        not_same same = let as_long = ap (λ (os : List Object). length os) same in omega (arith, as_long, longer)

        was : (n : ℕ) → existing (after (run (boot s) before) cpu) P n ≡ true → (existing (run (boot s) before) P n ≡ true) ⊎ (n ≡ length (run (boot s) before).objects)
        was n q = by_test (nat_lt n (length k.objects)) refl
          where
            by_test : (t : Bool) → nat_lt n (length k.objects) ≡ t → (existing k P n ≡ true) ⊎ (n ≡ length k.objects)
            by_test true h = inl (ap₂ (λ (t u : Bool). t && u) (of_existing new P n q) h)
            by_test false h = inr (let first = past_is n (length k.objects) h in let inside = is_below n (length new.objects) (existing_below new P n q) in omega (arith, first, inside, longer))

        up : (n : ℕ) → existing (run (boot s) before) P n ≡ true → existing (after (run (boot s) before) cpu) P n ≡ true
        up n q = let inside = is_below n (length k.objects) (existing_below k P n q) in in_existing new P n (of_existing k P n q) (omega (arith, inside, longer))

        wider : AreWider (run (boot s) before) (Of (domains (run (boot s) before) S)) (Of (domains (after (run (boot s) before) cpu) S)) (Of (existing (run (boot s) before) P)) (Of (existing (after (run (boot s) before) cpu) P))
        wider = record {
          last = in_existing new P (length k.objects) (c.alone.objects (length k.objects) (omega arith)) (omega (arith, longer));
          up = up;
          down = was;
          domains = λ pd at r. in_domains k S pd (of_domains new S pd r) at;
        }

        side : IsSide (after (run (boot s) before) cpu) (Of (domains (after (run (boot s) before) cpu) S)) (Of (existing (after (run (boot s) before) cpu) P))
        side = subst (λ (l : KernelState). IsSide l (Of (domains new S)) (Of (existing new P))) (sym as_made)
            (grown_side k (Of (domains k S)) (Of (domains new S)) (Of (existing k P)) (Of (existing new P)) c.part.side sound.kept.tables homed wider cpu ec sc target made edit its.of of edits (is_stirred k ec (deed k ec)))

        by_grows : GrowsByRight (run (boot s) before) (after (run (boot s) before) cpu) ec → IsCreatingApart (after (run (boot s) before) cpu) S P (more (run (boot s) before) T cpu)
        by_grows (Keeps same delegated) = absurd (not_same same)
        by_grows (Gives child source has edge_ within shared given gives same delegated) = absurd (not_same same)
        by_grows (Takes leaf may same delegated) = absurd (not_same same)
        by_grows (Creates object capability first joins delegated) = record {
          part =
              grown_partitioned s before (Of (domains k S)) (Of (domains new S)) (Of (existing k P)) (Of (existing new P)) T cpu ec object capability (record {
                acts = own_acts (domains k S) k cpu ec sc its;
                member = member;
                first = first;
                objects = joins;
                delegations = delegated;
                one = record { to = λ n m. joins_to n m; from = λ n r. back n (domain_at new S n r) (of_domains new S n r) };
                old = was;
              }) c.part side;
          alone = alone_more k new (Of S) (Of P) (object_of made) objects c.alone;
        }
          where
            joins_to : (n : ℕ) → more (run (boot s) before) (Of (domains (run (boot s) before) S)) cpu n → domains (after (run (boot s) before) cpu) S n ≡ true
            joins_to n (inl old) = in_domains new S n (of_domains k S n old) (object_kept k cpu n Pd (domain_at k S n old))
            joins_to n (inr one) = in_domains new S n (c.alone.domains n (let number = one.number in omega (arith, number))) one.made

            back : (n : ℕ) → slice_get (after (run (boot s) before) cpu).objects n ≡ Some Pd → S n ≡ true → more (run (boot s) before) (Of (domains (run (boot s) before) S)) cpu n
            back n at s_n = elim (get_joined k.objects (object_of made) n Pd (sym (ap (λ (os : List Object). slice_get os n) objects) ∙ at)) [
              | inl old ↦ inl (in_domains k S n s_n old)
              | inr one ↦ inr (record { maker = ec; acts = own_acts (domains k S) k cpu ec sc its; of = member; number = one.0; made = at })
            ]

    by_mine : IsOwnDeed timed (true ≡ true) (run (boot s) before) (Of (domains (run (boot s) before) S)) (Of (existing (run (boot s) before) P)) (deed (run (boot s) before) ec) →
        IsCreatingApart (after (run (boot s) before) cpu) S P (more (run (boot s) before) T cpu)
    by_mine (Alone does) = still (Alone does)
    by_mine (Part child cursor gives part) = still (Part child cursor gives part)
    by_mine (Leaf leaf takes its_leaf) = still (Leaf leaf takes its_leaf)
    by_mine (New call target made makes creates of) = grown target made (Answers Success None) (with_deed (deeds.Makes call target made) makes) of tt
    by_mine (Open target domain opens creates) =
        grown target new_object.Pd (Becomes (Granting (Some domain))) (with_deed (deeds.Opens target domain) opens) tt (opens_well (Of (existing k P)) domain)

-- and nothing of others is made of what it holds
pub own_derive_last : (timed : Type 0) (s : Scenario) (before : List ℕ) (S P : ℕ → Bool) (cpu ec sc : ℕ) → own_turn S (run (boot s) before) cpu ≡ Some (ec, sc) →
    IsOwnDeed timed (true ≡ true) (run (boot s) before) (Of (domains (run (boot s) before) S)) (Of (existing (run (boot s) before) P)) (deed (run (boot s) before) ec) →
    DerivesWithin (run (boot s) before) (Of S) → DerivesWithin (after (run (boot s) before) cpu) (Of S)
own_derive_last timed s before S P cpu ec sc own mine within = by_mine mine
  where
    k : KernelState
    k = run (boot s) before

    is : after (run (boot s) before) cpu ≡ turned (run (boot s) before) cpu (by_deed (run (boot s) before) ec sc (deed (run (boot s) before) ec) (is_stirred (run (boot s) before) ec (deed (run (boot s) before) ec)))
    is = own_turned S k cpu ec sc (own_is S k cpu ec sc own)

    delegations : (after (run (boot s) before) cpu).delegations ≡ branched (run (boot s) before).delegations (branch_by (run (boot s) before) ec (deed (run (boot s) before) ec))
    delegations = ap (λ (l : KernelState). l.delegations) is

    still : IsOwnDeed timed (false ≡ true) (run (boot s) before) (Of (domains (run (boot s) before) S)) (Of (existing (run (boot s) before) P)) (deed (run (boot s) before) ec) →
        DerivesWithin (after (run (boot s) before) cpu) (Of S)
    still m =
        let none : made_by (deed k ec) ≡ None = first_made timed (false ≡ true) k (Of (domains k S)) (Of (existing k P)) (deed k ec) never m in
        derives_all k (after k cpu) S (homed_next s before cpu) (ap (λ (l : KernelState). l.objects) is ∙ unjoined k.objects object_of (made_by (deed k ec)) none)
        (own_derives timed (false ≡ true) k (after k cpu) (Of (domains k S)) (Of (existing k P)) (reached_sound s before).forest ec (deed k ec) m delegations (derives_there k S (reached_homed s before) within))

    by_mine : IsOwnDeed timed (true ≡ true) (run (boot s) before) (Of (domains (run (boot s) before) S)) (Of (existing (run (boot s) before) P)) (deed (run (boot s) before) ec) →
        DerivesWithin (after (run (boot s) before) cpu) (Of S)
    by_mine (Alone does) = still (Alone does)
    by_mine (Part child cursor gives part) = still (Part child cursor gives part)
    by_mine (Leaf leaf takes its_leaf) = still (Leaf leaf takes its_leaf)
    by_mine (New call target made makes creates of) =
        rooted_derives k (after k cpu) (Of S) (reached_sound s before).forest (pd_of k ec) target made (delegations ∙ ap (λ (d : Deed). branched k.delegations (branch_by k ec d)) makes) within
    by_mine (Open target domain opens creates) =
        rooted_derives k (after k cpu) (Of S) (reached_sound s before).forest (pd_of k ec) target new_object.Pd (delegations ∙ ap (λ (d : Deed). branched k.delegations (branch_by k ec d)) opens) within
