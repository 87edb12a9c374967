use borrow.Author.Rules.{rules}
use Rattle.script_parts.proofs.put.Goals as goal

pub returns : goal.returns
returns c = record { table = cc; symbols = search rules; parts = search rules; records = search rules; differs = search rules; checks = search rules; fields = search rules }
