use Rattle.std.proofs.Common.{ap}
use Rattle.nova_model.specs.Boot.{rights_of}
use Rattle.nova_memory.proofs.Rooted.{console_joins, console_joined}
use Rattle.nova_memory.proofs.boot.add_console.Goals as goal

pub root-requires-clause-fits : goal.root-requires-clause-fits
root-requires-clause-fits c =
    console_joins c.args.nodes.now.delegations c.args.order c.args.console c.console_page-page.result c.page_range.result c.from_bits_retain.result
    c.requires.before c.page_range.ensures (ap rights_of c.from_bits_retain.ensures) c.console_page-page.ensures.page

pub returns-clause-delegations : goal.returns-clause-delegations
returns-clause-delegations c =
    console_joined c.args.nodes.now.delegations c.root.new.self.delegations c.args.order c.args.console c.console_page-page.result c.page_range.result
    c.from_bits_retain.result c.requires.before c.page_range.ensures (ap rights_of c.from_bits_retain.ensures) c.console_page-page.ensures.page c.root.ensures.added
