use Prim.Native.Nat.{suc}
use lib.ListN.{length}
use native.Mathlib.Omega.{arith}
use Rattle.script_steps.proofs.Outcomes.{handed}
use Rattle.script_commands.proofs.Asking.{ask-room, ask-readable}
use Rattle.script_commands.proofs.Making.{declare-name, declare-open, declare-sorts, declare-sort, declare-close, declare-good}
use Rattle.script_commands.proofs.declare_fun.Goals as goal

pub new_name-requires : goal.new_name-requires
new_name-requires c = ask-readable c.requires

pub returns-in_err-name : goal.returns-in_err-name
returns-in_err-name c = let q = handed c.from_residual.ensures in rw q (declare-name c.args.sort.now c.in_err-name.ensures)

pub want-requires : goal.want-requires
want-requires c = ((c.in_ok-name.ensures.names c.requires.seen c.requires.fields c.requires.start.holding).holds.inside, tt)

pub returns-in_err-opening : goal.returns-in_err-opening
returns-in_err-opening c = let q = handed c.from_residual-in_err-opening.ensures in rw q (declare-open c.args.sort.now c.in_ok-name.ensures c.in_err-opening.ensures)

pub sorts-requires : goal.sorts-requires
sorts-requires c = (c.in_ok-opening.ensures.out.holds.inside, c.requires.short)

pub returns-in_err-takes : goal.returns-in_err-takes
returns-in_err-takes c = let q = handed c.from_residual-in_err-takes.ensures in rw q (declare-sorts c.args.sort.now c.in_ok-name.ensures c.in_ok-opening.ensures c.in_err-takes.ensures)

pub sort_at-requires : goal.sort_at-requires
sort_at-requires c = (c.in_ok-takes.ensures.reads (suc (length c.args.script.now)) (omega arith)).holds.inside

pub returns-in_err-gives : goal.returns-in_err-gives
returns-in_err-gives c = let q = handed c.from_residual-in_err-gives.ensures in rw q (declare-sort c.args.sort.now c.in_ok-name.ensures c.in_ok-opening.ensures c.in_ok-takes.ensures c.in_err-gives.ensures)

pub returns-in_err-closing : goal.returns-in_err-closing
returns-in_err-closing c = let q = handed c.from_residual-in_err-closing.ensures in rw q (declare-close c.args.sort.now c.in_ok-name.ensures c.in_ok-opening.ensures c.in_ok-takes.ensures c.in_ok-gives.ensures c.in_err-closing.ensures)

pub declare-declared-requires : goal.declare-declared-requires
declare-declared-requires c = let z = (c.in_ok-name.ensures.names c.requires.seen c.requires.fields c.requires.start.holding).holds in let v = ask-room c.requires in let y = z.order in record { long = v.long; few = v.symbols; order = omega arith; within = z.inside; short = c.requires.short }

pub returns : goal.returns
returns c = declare-good c.args.sort.now c.in_ok-name.ensures c.in_ok-opening.ensures c.in_ok-takes.ensures c.in_ok-gives.ensures c.in_ok-closing.ensures _ c.declare-declared.ensures c.finish.ensures
