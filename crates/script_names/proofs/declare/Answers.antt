use borrow.Author.Rules.{rules}
use Rattle.script_names.proofs.Held.{declares}
use Rattle.script_names.proofs.declare.Goals as goal

pub returns : goal.returns
returns c = declares c.requires (record { table = c.mark.ensures; symbols = search rules; parts = search rules; records = search rules; differs = search rules; checks = search rules; fields = search rules }) c.key_of-key.ensures.0 c.cell-head.ensures
