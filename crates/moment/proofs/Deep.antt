-- Two tags of one depth that are not the same have no common tag on their chains as deep as they are: else the same number of links would lead from it to both. So the newest join
-- between s and t is the newest of the last links by which two climbs of equal depth come to one tag. Assumes nothing.
use Prim.Native.Nat.{ℕ, zero, suc, ◌+◌, ◌-◌, ◌≤◌, ◌<◌, max}
use native.Mathlib.Omega.{arith}
use native.Mathlib.Decide.{dec_lt, dec_le}
use mathlib.Core.Path.{◌≡◌, refl, sym, ◌∙◌, ap}
use mathlib.Core.Logic.{◌≢◌}
use Rattle.meaning.specs.Forest.{root, Links}
use Rattle.meaning.specs.Limits.{most_tags}
use Rattle.meaning.proofs.Forest.{root-stop, root-up, climb-stay, climb-up}
use Rattle.moment.specs.Deep.{Depth, leads, linked, up, Climbed, Last, Newest}

module _ (p g : ℕ → ℕ) (K : Links p g most_tags most_tags) (top : ℕ) (under : top ≤ most_tags) where
  pub depth-one : {x d e : ℕ} → Depth p g top x d → Depth p g top x e → d ≡ e
  depth-one (leads h) (leads k) = refl
  depth-one (leads h) (linked l k) = absurd (omega arith)
  depth-one (linked l h) (leads k) = absurd (omega arith)
  depth-one (linked l h) (linked m k) = ap suc (depth-one h k)

  up_up : (i j x : ℕ) → up p j (up p i x) ≡ up p (i + j) x
  up_up zero j x = let z : 0 + j ≡ j = omega arith in rw z
  up_up (suc i) j x = let z : suc i + j ≡ suc (i + j) = omega arith in rw z (up_up i j (p x))

  -- The leader of an age stands on the chain, and where it stops is no deeper than any tag whose link is not older.
  pub record Stop (a s d : ℕ) : Type 0 where
    pub steps : ℕ
    pub depth : ℕ
    pub sum : steps + depth ≡ d
    pub there : up p steps s ≡ root p g a s
    pub at : Depth p g top (root p g a s) depth

  pub stop : (a : ℕ) → a ≤ top → {s d : ℕ} → Depth p g top s d → Stop a s d
  stop a m {s} {d} (leads h) =
      let e : root p g a s ≡ s = root-stop p g most_tags most_tags K a (omega arith) (omega arith) s (omega arith) in
      record { steps = 0; depth = 0; sum = omega arith; there = sym e; at = rw e (leads h) }
  stop a m {s} {d} (linked {d = d'} l h) = go (dec_lt (g s) a) (stop a m h)
    where
      go : Dec (g s < a) → Stop a (p s) d' → Stop a s (suc d')
      go (yes k) r =
          let e : root p g a s ≡ root p g a (p s) = root-up p g most_tags most_tags K a (omega arith) (omega arith) s k in
          record { steps = suc r.steps; depth = r.depth; sum = omega (arith, r.sum); there = r.there ∙ sym e; at = rw e r.at }
      go (no k) r =
          let e : root p g a s ≡ s = root-stop p g most_tags most_tags K a (omega arith) (omega arith) s (omega arith) in
          record { steps = 0; depth = suc d'; sum = omega arith; there = sym e; at = rw e (linked l h) }

  pub stop-deep : (a : ℕ) → a ≤ top → {s d : ℕ} → Depth p g top s d → (i k : ℕ) → i + k ≡ d → a ≤ g (up p i s) → (j : ℕ) → Depth p g top (root p g a s) j → k ≤ j
  stop-deep a m {s} {d} D zero k q l j J =
      let e : root p g a s ≡ s = root-stop p g most_tags most_tags K a (omega arith) (omega arith) s l in
      let z : j ≡ d = depth-one (rw e at J) D in
      omega arith
  stop-deep a m (leads h) (suc i) k q l j J = absurd (omega arith)
  stop-deep a m {s} {d} (linked {d = d'} h D) (suc i) k q l j J = go (dec_lt (g s) a) (λ x. stop-deep a m {s = p s} {d = d'} D i k (omega arith) l j x)
    where
      go : Dec (g s < a) → (Depth p g top (root p g a (p s)) j → k ≤ j) → k ≤ j
      go (yes x) f = f (rw (root-up p g most_tags most_tags K a (omega arith) (omega arith) s x) at J)
      go (no x) f =
          let e : root p g a s ≡ s = root-stop p g most_tags most_tags K a (omega arith) (omega arith) s (omega arith) in
          let z : j ≡ suc d' = depth-one (rw e at J) (linked h D) in
          omega arith

  pub climb-begin : {s d : ℕ} → Depth p g top s d → Climbed p g top s d s d
  climb-begin {s} D = record { from = D; to = D; steps = 0; sum = omega arith; there = refl; age = 0; low = omega arith; few = omega arith; led = root-stop p g most_tags most_tags K 0 (omega arith) (omega arith) s (omega arith) }

  link-there : {x k : ℕ} → Depth p g top x (suc k) → (g x < top) × Depth p g top (p x) k
  link-there (linked l h) = (l, h)

  pub none-there : {x : ℕ} → Depth p g top x 0 → top ≤ g x
  none-there (leads h) = h

  pub climb-on : {s d x k : ℕ} → Climbed p g top s d x (suc k) → Climbed p g top s d (p x) k
  climb-on {s} {d} {x} {k} c = let n = link-there c.to in let l : g x < top = n.0 in record {
    from = c.from;
    to = n.1;
    steps = c.steps + 1;
    sum = omega (arith, c.sum);
    there = sym (up_up c.steps 1 s) ∙ ap p c.there;
    age = suc (g x);
    low = K.rise x (omega arith);
    few = omega arith;
    led = climb-up p g most_tags most_tags K (omega arith) c.age s x c.led c.low (omega arith);
  }

  -- Two climbs of one depth that stand on two tags: where s and t have one leader, both links have been taken.
  pub both-taken : {s d x t e y k : ℕ} → Climbed p g top s d x k → Climbed p g top t e y k → x ≢ y → (a : ℕ) → a ≤ top → root p g a s ≡ root p g a t → (g x < a) × (g y < a)
  both-taken {s} {d} {x} {t} {e} {y} {k} c c' n a m q = go (dec_le a (g x)) (dec_le a (g y))
    where
      S : Stop a s d
      S = stop a m c.from

      T : Stop a t e
      T = stop a m c'.from

      same-depth : S.depth ≡ T.depth
      same-depth = depth-one (rw q at S.at) T.at

      -- From the common tag as many links lead to x and to y.
      above : S.depth < k
      above = no_deeper (dec_le k S.depth)
        where
          rest : ℕ
          rest = S.depth - k

          no_deeper : Dec (k ≤ S.depth) → S.depth < k
          no_deeper (no l) = omega arith
          no_deeper (yes l) =
              let i : S.steps + rest ≡ c.steps = omega (arith, S.sum, c.sum) in
              let j : T.steps + rest ≡ c'.steps = omega (arith, T.sum, c'.sum, same-depth) in
              let u : up p rest (root p g a s) ≡ x = ap (up p rest) (sym S.there) ∙ up_up S.steps rest s ∙ ap (λ (z : ℕ). up p z s) i ∙ c.there in
              let v : up p rest (root p g a t) ≡ y = ap (up p rest) (sym T.there) ∙ up_up T.steps rest t ∙ ap (λ (z : ℕ). up p z t) j ∙ c'.there in
              absurd (n (sym u ∙ ap (up p rest) q ∙ v))

      deep : a ≤ g x → k ≤ S.depth
      deep l = stop-deep a m c.from c.steps k c.sum (rw c.there l) S.depth S.at

      deep' : a ≤ g y → k ≤ T.depth
      deep' l = stop-deep a m c'.from c'.steps k c'.sum (rw c'.there l) T.depth T.at

      go : Dec (a ≤ g x) → Dec (a ≤ g y) → (g x < a) × (g y < a)
      go (no l) (no l') = (omega arith, omega arith)
      go (yes l) z = absurd (omega (arith, deep l, above))
      go (no l) (yes l') = absurd (omega (arith, deep' l', above, same-depth))

  -- One link more on both sides, and they stand on one tag.
  pub meet-both : {s d x t e y k : ℕ} → Climbed p g top s d x (suc k) → Climbed p g top t e y (suc k) → x ≢ y → p x ≡ p y → (b : ℕ) → b ≡ max (g x) (g y) → Newest p g top s t b
  meet-both {s} {d} {x} {t} {e} {y} {k} c c' n q b eb =
      let l : g x < top = (link-there c.to).0 in
      let l' : g y < top = (link-there c'.to).0 in
      let r : g x < g (p x) = K.rise x (omega arith) in
      let r' : g y < g (p y) = K.rise y (omega arith) in
      let z : g (p x) ≡ g (p y) = ap g q in
      record {
        most = omega arith;
        joined = climb-stay p g most_tags most_tags K (omega arith) (suc (g x)) (suc b) s (p x) (climb-up p g most_tags most_tags K (omega arith) c.age s x c.led c.low (omega arith)) (omega arith) (omega arith) (omega arith) ∙ q
            ∙ sym (climb-stay p g most_tags most_tags K (omega arith) (suc (g y)) (suc b) t (p y) (climb-up p g most_tags most_tags K (omega arith) c'.age t y c'.led c'.low (omega arith)) (omega arith) (omega arith) (omega arith));
        apart = λ a h f. let w = both-taken c c' n a (omega arith) f in absurd (omega (arith, w.0, w.1));
      }

  -- Where no link leads on, no join brought them together.
  pub meet-never : {s d x t e y : ℕ} → Climbed p g top s d x 0 → Climbed p g top t e y 0 → x ≢ y → (a : ℕ) → a ≤ top → root p g a s ≢ root p g a t
  meet-never c c' n a m f = let w = both-taken c c' n a m f in absurd (omega (arith, w.0, none-there c.to))

  -- One side alone climbed, and came to the other tag.
  pub meet_one : {s d t k b : ℕ} → Last p g top s d t k b → Depth p g top t k → Newest p g top s t b
  meet_one {s} {d} {t} {k} {b} h D =
      let c = h.climbed in
      let x = h.before in
      let l : g x < top = (link-there c.to).0 in
      let r : g x < g (p x) = K.rise x (omega arith) in
      let z : g (p x) ≡ g t = ap g h.on in
      let none : root p g 0 t ≡ t = root-stop p g most_tags most_tags K 0 (omega arith) (omega arith) t (omega arith) in
      record {
        most = omega (arith, h.age);
        joined = rw (← h.age) (climb-up p g most_tags most_tags K (omega arith) c.age s x c.led c.low (omega arith) ∙ h.on ∙ sym (climb-stay p g most_tags most_tags K (omega arith) 0 (suc (g x)) t t none (omega arith) (omega arith) (omega arith)));
        apart = λ a m f.
            let S = stop a (omega (arith, h.age)) c.from in
            let T = stop a (omega (arith, h.age)) D in
            let e : S.depth ≡ T.depth = depth-one (rw f at S.at) T.at in
            absurd (omega (arith, e, T.sum, stop-deep a (omega (arith, h.age)) c.from c.steps (suc k) c.sum (rw c.there (omega (arith, h.age))) S.depth S.at));
      }

  pub newest-flip : {s t b : ℕ} → Newest p g top s t b → Newest p g top t s b
  newest-flip h = record { most = h.most; joined = sym h.joined; apart = λ a l q. h.apart a l (sym q) }
