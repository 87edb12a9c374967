-- `answer_explain::answer_explain` meets its contract: what explain leaves in the list is a reason, which is no longer than the room that was
-- counted for it, with its sheets behind it; or the equality does not follow.
-- Assumes nothing.
use borrow.Author.Rules.{rules}
use Prim.Native.Nat.{◌+◌, ◌*◌, ◌≤◌}
use native.Mathlib.Omega.{arith}
use lib.ListN.{length}
use Rattle.answer_sheets.proofs.Filing.{few, fits, fileable}
use Rattle.answer_explain.proofs.Explaining.{because_bytes, because-size, explain-filing, apart-told, because-told}
use Rattle.answer_explain.proofs.answer_explain.Goals as goal

pub explain-requires : goal.explain-requires
explain-requires g c = let f = c.requires.0.facing in record { question = record { past = f.past; stands = omega (arith, f.passed); s-tag = f.tags.0; t-tag = f.tags.1.0 }; held = g.met.P.Profile.laws.held c.requires.1 c.requires.0.records }

pub write_reason-requires : goal.write_reason-requires
write_reason-requires g c =
    let r = c.in-Some.ensures.says in
    (c.explain.ensures.past.loaded.long, omega (arith, few g.met.P.Profile.laws (explain-filing c.requires.0) c.in-Some.count c.explain.new.work r), fits g.met.P.Profile.laws (explain-filing c.requires.0) c.in-Some.count c.explain.new.work r)

pub overflow_add-out : goal.overflow_add-out
overflow_add-out g c =
    let r = c.in-Some.ensures.says in
    let small = few g.met.P.Profile.laws (explain-filing c.requires.0) c.in-Some.count c.explain.new.work r in
    let fit : c.args.out + 3 + 2 * c.in-Some.count ≤ length c.args.room.now = fits g.met.P.Profile.laws (explain-filing c.requires.0) c.in-Some.count c.explain.new.work r in
    search rules

pub overflow_mul-count : goal.overflow_mul-count
overflow_mul-count g c =
    let r = c.in-Some.ensures.says in
    let small = few g.met.P.Profile.laws (explain-filing c.requires.0) c.in-Some.count c.explain.new.work r in
    search rules

pub overflow_add-out-in-Some : goal.overflow_add-out-in-Some
overflow_add-out-in-Some g c =
    let r = c.in-Some.ensures.says in
    let small = few g.met.P.Profile.laws (explain-filing c.requires.0) c.in-Some.count c.explain.new.work r in
    let fit : c.args.out + 3 + 2 * c.in-Some.count ≤ length c.args.room.now = fits g.met.P.Profile.laws (explain-filing c.requires.0) c.in-Some.count c.explain.new.work r in
    search rules

pub file_sheets-requires : goal.file_sheets-requires
file_sheets-requires g c = fileable g.met.P.Profile.laws (explain-filing c.requires.0) c.in-Some.count c.explain.new.work c.in-Some.ensures.says (because_bytes c.in-Some.count c.explain.new.work) _ (because-size c.in-Some.count c.explain.new.work) c.write_reason.ensures c.explain.ensures.past.loaded.long

pub write_apart-requires : goal.write_apart-requires
write_apart-requires g c = omega (arith, c.requires.0.facing.fits)

pub returns-in-Some : goal.returns-in-Some
returns-in-Some g c = because-told g.met.P.Profile.laws c.requires.0 c.in-Some.count c.explain.new.work c.in-Some.ensures.says _ c.write_reason.ensures c.explain.ensures.kept c.file_sheets.ensures

pub returns-in-None : goal.returns-in-None
returns-in-None g c = apart-told g.met.P.Profile.laws c.requires.0 c.in-None.ensures.says c.explain.ensures.kept c.write_apart.ensures
