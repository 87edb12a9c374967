-- `answer_broken::answer_breach` meets its contract: the equality follows, so that explain leaves a reason in the list, which is no longer than the room that was
-- counted for it, and its sheets go behind it.
-- Assumes nothing.
use borrow.Author.Rules.{rules}
use Prim.Native.Nat.{◌+◌, ◌*◌, ◌≤◌}
use native.Mathlib.Omega.{arith}
use lib.ListN.{length}
use Rattle.answer_sheets.proofs.Filing.{few, fits, fileable}
use Rattle.answer_broken.proofs.Breach.{breach_bytes, breach-size, breach-filing, breach-told}
use Rattle.answer_broken.proofs.answer_breach.Goals as goal

pub explain-requires : goal.explain-requires
explain-requires g c = record { question = record { past = c.requires.0.past; stands = c.requires.0.passed; s-tag = c.requires.0.from; t-tag = c.requires.0.to }; held = g.met.P.Profile.laws.held c.requires.1 c.requires.0.records }

pub write_breach-requires : goal.write_breach-requires
write_breach-requires g c =
    let r = c.in-Some.ensures.says in
    (c.explain.ensures.past.loaded.long, omega (arith, few g.met.P.Profile.laws (breach-filing c.requires.0) c.in-Some.count c.explain.new.work r), fits g.met.P.Profile.laws (breach-filing c.requires.0) c.in-Some.count c.explain.new.work r, c.requires.0.number)

pub overflow_add-out : goal.overflow_add-out
overflow_add-out g c =
    let r = c.in-Some.ensures.says in
    let small = few g.met.P.Profile.laws (breach-filing c.requires.0) c.in-Some.count c.explain.new.work r in
    let fit : c.args.out + 5 + 2 * c.in-Some.count ≤ length c.args.room.now = fits g.met.P.Profile.laws (breach-filing c.requires.0) c.in-Some.count c.explain.new.work r in
    search rules

pub overflow_mul-count : goal.overflow_mul-count
overflow_mul-count g c =
    let r = c.in-Some.ensures.says in
    let small = few g.met.P.Profile.laws (breach-filing c.requires.0) c.in-Some.count c.explain.new.work r in
    search rules

pub overflow_add-out-in-Some : goal.overflow_add-out-in-Some
overflow_add-out-in-Some g c =
    let r = c.in-Some.ensures.says in
    let small = few g.met.P.Profile.laws (breach-filing c.requires.0) c.in-Some.count c.explain.new.work r in
    let fit : c.args.out + 5 + 2 * c.in-Some.count ≤ length c.args.room.now = fits g.met.P.Profile.laws (breach-filing c.requires.0) c.in-Some.count c.explain.new.work r in
    search rules

pub file_sheets-requires : goal.file_sheets-requires
file_sheets-requires g c = fileable g.met.P.Profile.laws (breach-filing c.requires.0) c.in-Some.count c.explain.new.work c.in-Some.ensures.says (breach_bytes c.args.number c.in-Some.count c.explain.new.work) _ (breach-size c.args.number c.in-Some.count c.explain.new.work) c.write_breach.ensures c.explain.ensures.past.loaded.long

pub returns-in-Some : goal.returns-in-Some
returns-in-Some g c = breach-told g.met.P.Profile.laws c.requires.0 c.in-Some.count c.explain.new.work c.in-Some.ensures.says _ c.write_breach.ensures c.explain.ensures.kept c.file_sheets.ensures

pub returns-in-None : goal.returns-in-None
returns-in-None g c = absurd (c.in-None.ensures.says c.requires.0.equal)
