-- `unite` meets its contract. The bounds that the stores need come from the join's being due; the rest is the law of a join.
-- Assumes nothing.
use mathlib.Core.Path.{◌≡◌, sym, ap, ◌∙◌}
use mathlib.Core.Logic.{inl}
use Prim.Native.Nat.{ℕ, ◌≤◌, ◌<◌}
use native.Mathlib.Omega.{arith}
use Rattle.meaning.specs.Limits.{most_tags}
use Rattle.table.specs.Map.{label_of}
use Rattle.table.proofs.Frame.{seen-within}
use Rattle.table.specs.Places.{LABEL, Large}
use Rattle.all_join.proofs.Uniting.{unite-kept, unite-gone, unite-young, unite-top, unite-between, unite-over, unite-done}
use Rattle.all_join.proofs.unite.Goals as goal

pub parent-top-requires : goal.parent-top-requires
parent-top-requires c =
    let long : Large c.args.work.now = c.requires.0.standing.loaded.long in
    (long, unite-gone c.requires.0 c.requires.1 c.requires.2)

pub touch_class-to-requires : goal.touch_class-to-requires
touch_class-to-requires c =
    let top-low : c.parent-top.result.0 < most_tags = omega (arith, c.parent-top.ensures, unite-top c.requires.0 c.requires.1 c.requires.2, c.requires.0.standing.loaded.few) in
    let between : (x : ℕ) → label_of c.args.work.now x ≡ c.args.gone.label.0 → (c.args.gone.leader.0 ≤ x) × (x ≤ c.parent-top.result.0) = λ x e. let b = unite-between c.requires.0 c.requires.1 c.requires.2 x e in (b.0, omega (arith, c.parent-top.ensures, b.1)) in
    (c.requires.0.indexed, top-low, between)

pub rename-requires : goal.rename-requires
rename-requires c =
    let long : Large c.args.work.now = c.requires.0.standing.loaded.long in
    let top-low : c.parent-top.result.0 < most_tags = omega (arith, c.parent-top.ensures, unite-top c.requires.0 c.requires.1 c.requires.2, c.requires.0.standing.loaded.few) in
    let top-over : c.args.gone.leader.0 ≤ c.parent-top.result.0 = omega (arith, c.parent-top.ensures, unite-over c.requires.0 c.requires.1 c.requires.2) in
    let between : (x : ℕ) → label_of c.args.work.now x ≡ c.args.gone.label.0 → (c.args.gone.leader.0 ≤ x) × (x ≤ c.parent-top.result.0) = λ x e. let b = unite-between c.requires.0 c.requires.1 c.requires.2 x e in (b.0, omega (arith, c.parent-top.ensures, b.1)) in
    let long₁ : Large c.touch_class-to.new.work = omega (arith, long, c.touch_class-to.ensures.0.frame.size) in
    let same = seen-within LABEL c.touch_class-to.ensures.0.frame (inl (omega arith)) in
    (long₁, top-over, top-low, λ x e. between x (sym (ap (λ (f : ℕ → ℕ). f x) same) ∙ e))

pub keep-requires : goal.keep-requires
keep-requires c =
    let long : Large c.args.work.now = c.requires.0.standing.loaded.long in
    let long₁ : Large c.touch_class-to.new.work = omega (arith, long, c.touch_class-to.ensures.0.frame.size) in
    let long₂ : Large c.rename.new.work = omega (arith, long₁, c.rename.ensures.frame.size) in
    (long₂, unite-kept c.requires.0 c.requires.1 c.requires.2, unite-gone c.requires.0 c.requires.1 c.requires.2, unite-young c.requires.0 c.requires.1 c.requires.2)

pub returns : goal.returns
returns c = unite-done c.requires.0 c.requires.1 c.requires.2 c.touch_class-to.ensures.0 c.touch_class-to.ensures.1 c.rename.ensures (rw c.record_at.ensures at c.keep.ensures)
