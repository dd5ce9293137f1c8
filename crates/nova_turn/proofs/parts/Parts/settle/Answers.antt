use Rattle.std.proofs.Common.{◌≡◌, ◌∙◌, ℕ, ap, sym, subst}
use Rattle.std.specs.Prelude.{Bool, true, ◌==◌, ◌&&◌, Option, Some}
use Rattle.rv_model.specs.Step.{environment_call}
use Rattle.nova_model.specs.Deeds.{deed, signalled}
use Rattle.nova_model.specs.Hypercalls.{hypercall}
use Rattle.nova_model.specs.State.{KernelState, context, is_thread, pd_of}
use Rattle.nova_model.specs.declared.deed.Deed.{Deed}
use Rattle.nova_model.specs.declared.deed.Deed.TheVariants.{Calls, Replies}
use Rattle.nova_turn.specs.Going.{HasRaised}
use Rattle.nova_turn.specs.Parts.{state_of}
use Rattle.nova_turn.specs.declared.decide.deciding.Raised.{Raised}
use Rattle.nova_turn.proofs.Going.{raised_deed}
use Rattle.nova_turn.proofs.parts.Parts.settle.Goals as goal

-- what the hypercall of a raise comes to is the deed
asked : (k : KernelState) (ec : ℕ) (o : Option Raised) (r : Raised) (d : Deed) (asks : Bool) → HasRaised k ec o → o ≡ Some r →
    asks ≡ ((r.reason == environment_call) && is_thread k ec) → asks ≡ true → hypercall k ec (pd_of k ec) (context k ec).regs ≡ d → d ≡ deed k ec
asked k ec o r d asks raised some is holds comes =
    raised_deed k ec r d (subst (HasRaised k ec) some raised) (sym comes ∙ sym (ap (λ (b : Bool). signalled k ec r.reason r.q0 r.q1 b) (sym is ∙ holds)))

pub conclude-requires-clause-own : goal.conclude-requires-clause-own
conclude-requires-clause-own c =
    let call = c.in-Some-sent_call.call in
    asked (state_of c.args.self.now) c.args.chosen.actor c.args.raised c.in-Some.raised (Calls call.handler call.ip call.identifier call.items) c.is_hypercall.result
    c.requires.raised c.in-Some.is c.is_hypercall.ensures c.if-is_hypercall.true c.in-Some-sent_call.ensures.deed

pub conclude-requires-in-Some-sent_reply-clause-own : goal.conclude-requires-in-Some-sent_reply-clause-own
conclude-requires-in-Some-sent_reply-clause-own c =
    let reply = c.in-Some-sent_reply.reply in
    asked (state_of c.args.self.now) c.args.chosen.actor c.args.raised c.in-Some.raised (Replies reply.caller reply.mark reply.items) c.is_hypercall.result
    c.requires.raised c.in-Some.is c.is_hypercall.ensures c.if-is_hypercall.true c.in-Some-sent_reply.ensures.deed
