-- Lines that tell of ties and of verdicts.
use Rattle.std.specs.Prelude.{ℕ, ◌==◌, ◌||◌, Bool, true, false, if◌then◌else◌, List, [], ◌++◌, codes, decimal, flat_map}
use Rattle.nova_model.specs.State.{KernelState, pd_of}
use Rattle.nova_model.specs.declared.delegation.Derivation.{Derivation}
use Rattle.nova_report.specs.Words.{line_feed}
use Rattle.nova_ties.specs.Ties.{label_in}
use Rattle.nova_ties.specs.declared.tie.Cause.{Cause}
use Rattle.nova_ties.specs.declared.tie.Cause.TheVariants.{Domain, Context, Portal, Scheduling, Frames, Shared, Waits, Queue, Serves, Takes, Gives}
use Rattle.nova_ties.specs.declared.tie.Tie.{Tie}
use Rattle.nova_naming.specs.Labels.{side_text}
use Rattle.nova_naming.specs.Statements.{Stated}
use Rattle.nova_sides.specs.declared.judging.Restless.{Restless}
use Rattle.nova_sides.specs.declared.judging.Restless.TheVariants.{Astray, Leads, Stirs}
use Rattle.nova_sides.specs.declared.judging.Verdict.{Verdict}
use Rattle.nova_sides.specs.declared.judging.Verdict.TheVariants.{Apart, Served, Breach}
use Rattle.nova_judging.specs.Labelled.{are_two}
use Rattle.nova_judging.specs.Roles.{role_lines}
use Rattle.nova_judging.specs.Trails.{cause_lines, trail_lines}

-- a domain, behind what its side is called
abbrev pub domain_text : List Stated → List ℕ → ℕ → List ℕ
domain_text policy labels domain = side_text policy (label_in labels domain) ++ (codes ":" ++ decimal domain)

-- why two domains are tied: by derivations, and by execution contexts
abbrev pub cause_text : Cause → List ℕ
cause_text (Domain cap) = codes "domain cap " ++ decimal cap
cause_text (Context cap) = codes "context cap " ++ decimal cap
cause_text (Portal cap) = codes "portal cap " ++ decimal cap
cause_text (Scheduling cap) = codes "scheduling cap " ++ decimal cap
cause_text (Frames cap other) = codes "frames cap " ++ (decimal cap ++ (codes " cap " ++ decimal other))
cause_text (Shared cap other) = codes "shared cap " ++ (decimal cap ++ (codes " cap " ++ decimal other))
cause_text (Waits cap ec) = codes "waits cap " ++ (decimal cap ++ (codes " ec " ++ decimal ec))
cause_text (Queue ec other) = codes "queue ec " ++ (decimal ec ++ (codes " ec " ++ decimal other))
cause_text (Serves handler ec) = codes "serves ec " ++ (decimal handler ++ (codes " ec " ++ decimal ec))
cause_text (Takes handler ec) = codes "takes ec " ++ (decimal handler ++ (codes " ec " ++ decimal ec))
cause_text (Gives ec) = codes "gives ec " ++ decimal ec

abbrev pub strict_text : Bool → List ℕ
strict_text true = codes " strict\n"
strict_text false = codes "\n"

-- the two domains of a tie, why they are tied, and whether the second may not be trusted instead of being of the same side
abbrev pub tie_text : List Stated → List ℕ → Tie → List ℕ
tie_text policy labels t = domain_text policy labels t.from ++ (codes " " ++ (domain_text policy labels t.to ++ (codes " "
    ++ (cause_text t.cause ++ strict_text t.strict))))

-- a tie of a side to another domain
abbrev pub is_untold : List ℕ → Tie → Bool
is_untold labels t = (label_in labels t.from == 0) || (t.to == t.from)

abbrev pub tie_line : List Stated → List ℕ → Tie → List ℕ
tie_line policy labels t = if is_untold labels t then [] else codes "tie " ++ tie_text policy labels t

abbrev pub tie_lines : List Stated → List ℕ → List Tie → List ℕ
tie_lines policy labels ts = flat_map (tie_line policy labels) ts

-- what is at work of what is trusted, or leads there
abbrev pub restless_lines : List Stated → List ℕ → KernelState → List Derivation → Restless → List ℕ
restless_lines policy labels k list (Astray n) = codes "served astray " ++ (decimal n ++ line_feed)
restless_lines policy labels k list (Leads d) = codes "served leads " ++ (domain_text policy labels d.pd ++ (codes " cap " ++ (decimal d.id ++ (line_feed ++ trail_lines list d.id))))
restless_lines policy labels k list (Stirs ec) = codes "served stirs ec " ++ (decimal ec ++ (codes " domain " ++ (decimal (pd_of k ec) ++ line_feed)))

-- a tie that sides don't respect, with where its capabilities came from
abbrev pub breach_lines : List Stated → List ℕ → List Derivation → Tie → List ℕ
breach_lines policy labels list t = codes "breach " ++ (tie_text policy labels t ++ cause_lines list t.cause)

abbrev pub stuck_lines : List Stated → List ℕ → List Derivation → Tie → List ℕ
stuck_lines policy labels list t = codes "stuck " ++ (tie_text policy labels t ++ cause_lines list t.cause)

-- a verdict, with what trusted domains are where they are served: where there aren't two sides, `single` in place of what would be said of their isolation
abbrev pub verdict_lines : List Stated → List ℕ → KernelState → List Derivation → Bool → Verdict → List ℕ
verdict_lines policy labels k list two (Breach t) = breach_lines policy labels list t
verdict_lines policy labels k list true Apart = codes "apart\n"
verdict_lines policy labels k list true (Served why) = restless_lines policy labels k list why ++ role_lines k labels
verdict_lines policy labels k list false Apart = codes "single\n"
verdict_lines policy labels k list false (Served why) = codes "single\n"

abbrev pub judged_lines : List Stated → List ℕ → KernelState → List Derivation → Verdict → List ℕ
judged_lines policy labels k list v = verdict_lines policy labels k list (are_two labels) v
