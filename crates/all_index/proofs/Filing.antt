-- A chain leads down and holds only places of its own bucket that do not wait, so a change at a place that it does not come by leaves it and every search of it as they were.
-- So the table stays filed as places are taken out of it, wait, are put back, or get new keys. Assumes nothing.
use Prim.Native.Nat.{ℕ, zero, suc, ◌-◌, ◌%◌, ◌≤◌, ◌<◌}
use native.Mathlib.Omega.{arith}
use mathlib.Core.Path.{◌≡◌, refl, sym, ◌∙◌}
use mathlib.Core.Logic.{◌≢◌, ◌⊎◌, inl, inr}
use mathlib.Core.Bool.{Bool, true, false, cond}
use borrow.Author.Tests.{eq-eqb, ne_eqb, eqb-true}
use Rattle.meaning.specs.Joins.{put}
use Rattle.meaning.proofs.Log.{put-hit, put-miss}
use Rattle.table_labels.specs.Chain.{seek_in, seek_to, hits, look}
use Rattle.table_labels.proofs.Chain.{by-same, seek-step, below}
use Rattle.all_index.specs.Filing.{On, here, further, link, found, Known, Filed, Uses}

clash : {A : Type 0} {b : Bool} → b ≡ true → b ≡ false → A
clash e h = let z : true ≡ false = sym e ∙ h in let y : ◌≡◌ {A = ℕ} 0 1 = cc in absurd (omega arith)

-- Where a chain comes by.
pub on-next : {nx : ℕ → ℕ} {q r : ℕ} → On nx (suc q) r → (r ≡ q) ⊎ On nx (nx q) r
on-next here = inl refl
on-next (further o) = inr o

on_some : {nx : ℕ → ℕ} {p r : ℕ} → On nx p r → 0 < p
on_some here = omega arith
on_some (further o) = omega arith

pub on_none : {nx : ℕ → ℕ} {r : ℕ} → On nx 0 r → ⊥
on_none o = let l = on_some o in omega arith

pub on-split : {nx : ℕ → ℕ} {p r : ℕ} → On nx p r → (r ≡ p - 1) ⊎ On nx (nx (p - 1)) r
on-split here = inl (omega arith)
on-split (further {q = q} o) = let z : suc q - 1 ≡ q = omega arith in inr (rw z o)

pub on-low : {nx : ℕ → ℕ} {i p r : ℕ} → ((r : ℕ) → r < i → nx r ≤ r) → p ≤ i → On nx p r → r < p
on-low fall l here = omega arith
on-low {nx = nx} fall l (further {q = q} o) =
    let d : nx q ≤ q = fall q (omega arith) in
    let h = on-low fall (omega arith) o in
    omega arith

-- Links that agree at all places of a chain: it is one chain.
along-at : {nx nx' : ℕ → ℕ} {p p' r : ℕ} → p ≡ p' → ((q : ℕ) → On nx p q → nx q ≡ nx' q) → On nx p r → On nx' p' r
along-at z en here = rw (← z) here
along-at {nx = nx} {nx' = nx'} z en (further {q = q} o) = rw (← z) (further (along-at (en q here) (λ s h. en s (further h)) o))

back_at : {nx nx' : ℕ → ℕ} {p p' r : ℕ} → p ≡ p' → ((q : ℕ) → On nx p q → nx q ≡ nx' q) → On nx' p' r → On nx p r
back_at z en here = rw z here
back_at {nx = nx} {nx' = nx'} z en (further {q = q} o) = rw z (further (back_at (en q (rw z here)) (λ s h. en s (rw z (further h))) o))

pub on-along : {nx nx' : ℕ → ℕ} {p r : ℕ} → ((q : ℕ) → On nx p q → nx q ≡ nx' q) → On nx p r → On nx' p r
on-along = along-at refl

pub on-back : {nx nx' : ℕ → ℕ} {p r : ℕ} → ((q : ℕ) → On nx p q → nx q ≡ nx' q) → On nx' p r → On nx p r
on-back = back_at refl

-- The search of one chain by links and tests that agree there; and what it finds is a place of the chain.
module _ (nx nx' : ℕ → ℕ) (hit hit' : ℕ → Bool) where
  seek-in-along : (f g p : ℕ) → p ≤ f → p ≤ g → ((r : ℕ) → nx r ≤ r) → ((r : ℕ) → On nx p r → nx r ≡ nx' r) → ((r : ℕ) → On nx p r → hit r ≡ hit' r)
      → seek_in nx hit f p ≡ seek_in nx' hit' g p
  seek-in-along zero zero zero a b fall en eh = refl
  seek-in-along zero (suc g) zero a b fall en eh = refl
  seek-in-along (suc f) zero zero a b fall en eh = refl
  seek-in-along (suc f) (suc g) zero a b fall en eh = refl
  seek-in-along zero g (suc r) a b fall en eh = absurd (omega (arith, a))
  seek-in-along (suc f) zero (suc r) a b fall en eh = absurd (omega (arith, b))
  seek-in-along (suc f) (suc g) (suc r) a b fall en eh =
      let d : nx r ≤ r = fall r in
      let e : nx r ≡ nx' r = en r here in
      let h : hit r ≡ hit' r = eh r here in
      let s : seek_in nx hit f (nx r) ≡ seek_in nx' hit' g (nx r) =
      seek-in-along f g (nx r) (omega arith) (omega arith) fall (λ q o. en q (further o)) (λ q o. eh q (further o)) in
      rw (s, e, h)

  pub seek-along : (p : ℕ) → ((r : ℕ) → nx r ≤ r) → ((r : ℕ) → On nx p r → nx r ≡ nx' r) → ((r : ℕ) → On nx p r → hit r ≡ hit' r) → seek_to nx hit p ≡ seek_to nx' hit' p
  unfolding seek_to
  seek-along p = seek-in-along p p p (omega arith) (omega arith)

module _ (nx : ℕ → ℕ) (hit : ℕ → Bool) where
  picked : (b : Bool) (r q : ℕ) → hit r ≡ b → (0 < q → (hit (q - 1) ≡ true) × On nx (nx r) (q - 1))
      → 0 < cond b (suc r) q → (hit (cond b (suc r) q - 1) ≡ true) × On nx (suc r) (cond b (suc r) q - 1)
  picked true r q e h l = let z : suc r - 1 ≡ r = omega arith in (rw z e, rw z here)
  picked false r q e h l = ((h l).0, further (h l).1)

  seek-in-on : (f p : ℕ) → 0 < seek_in nx hit f p → (hit (seek_in nx hit f p - 1) ≡ true) × On nx p (seek_in nx hit f p - 1)
  seek-in-on zero p l = absurd (omega (arith, l))
  seek-in-on (suc f) zero l = absurd (omega (arith, l))
  seek-in-on (suc f) (suc r) l = picked (hit r) r (seek_in nx hit f (nx r)) refl (seek-in-on f (nx r)) l

  pub seek-on : (p : ℕ) → 0 < seek_to nx hit p → (hit (seek_to nx hit p - 1) ≡ true) × On nx p (seek_to nx hit p - 1)
  unfolding seek_to
  seek-on p = seek-in-on p p

-- The same for a table.
pub found-along : (B : ℕ) (key key' hd hd' ch ch' : ℕ → ℕ) (x : ℕ) → hd (x % B) ≡ hd' (x % B) → ((r : ℕ) → link ch r ≤ r)
    → ((r : ℕ) → On (link ch) (hd (x % B)) r → link ch r ≡ link ch' r) → ((r : ℕ) → On (link ch) (hd (x % B)) r → key r ≡ key' r)
    → found B key' hd' ch' x ≡ found B key hd ch x
unfolding look
found-along B key key' hd hd' ch ch' x z fall en ek =
    rw (← z) (sym (seek-along (link ch) (link ch') (hits key x) (hits key' x) (hd (x % B)) fall en (λ r o. rw (ek r o))))

-- The search steps over the head.
found-step : (B : ℕ) (key hd ch : ℕ → ℕ) (x r : ℕ) → hd (x % B) ≡ suc r → ((r : ℕ) → link ch r ≤ r)
    → found B key hd ch x ≡ cond (hits key x r) (suc r) (seek_to (link ch) (hits key x) (link ch r))
unfolding look
found-step B key hd ch x r z fall = rw z (seek-step (link ch) (hits key x) fall r)

put-link : (r v : ℕ) (ch : ℕ → ℕ) (q : ℕ) → q ≢ r → link ch q ≡ link (put r v ch) q
put-link r v ch q n = rw (put-miss r v ch q n)

put-falls : (r v : ℕ) (ch : ℕ → ℕ) → v ≤ suc r → ((q : ℕ) → ch q ≤ suc q) → (q : ℕ) → put r v ch q ≤ suc q
put-falls r v ch l fall q = by-same q r (λ e. rw (e, put-hit r v ch) l) (λ n. rw (put-miss r v ch q n) (fall q))

put-zero : (r : ℕ) (ch : ℕ → ℕ) (q : ℕ) → ch q ≡ 0 → put r 0 ch q ≡ 0
put-zero r ch q z = by-same q r (λ e. rw (e, put-hit r 0 ch)) (λ n. rw (put-miss r 0 ch q n) z)

put-zero-other : (r : ℕ) (ch : ℕ → ℕ) (q : ℕ) → 0 < put r 0 ch q → q ≢ r
put-zero-other r ch q l e = let h : put r 0 ch q ≡ 0 = rw (e, put-hit r 0 ch) in omega arith

pub none : {B : ℕ} {eqn : ℕ → Bool} {key res hd ch : ℕ → ℕ} → ((b : ℕ) → hd b ≡ 0) → ((r : ℕ) → ch r ≡ 0) → Filed B 0 eqn key res hd ch
none {ch = ch} z y = record {
  heads = λ b. omega (arith, z b);
  falls = λ r. omega (arith, y r);
  filed = λ b r o. absurd (on_none (rw (z b) at o));
  known = λ j l. absurd (omega arith);
}

module _ {B i : ℕ} {eqn : ℕ → Bool} {key res hd ch : ℕ → ℕ} (F : Filed B i eqn key res hd ch) where
  pub falls' : (r : ℕ) → link ch r ≤ r
  falls' r = let h : ch r ≤ suc r = F.falls r in omega arith

  -- A place of a chain is below its begin, so below i.
  pub on_below : (p r : ℕ) → On (link ch) p r → r < p
  on_below p r o = on-low {i = p} (λ q l. falls' q) (omega arith) o

  pub on-place : (b r : ℕ) → On (link ch) (hd b) r → r < i
  on-place b r o = let h : hd b ≤ i = F.heads b in let g = on_below (hd b) r o in omega arith

  pub found-on : (x : ℕ) → 0 < found B key hd ch x → On (link ch) (hd (x % B)) (found B key hd ch x - 1)
  unfolding look
  found-on x l = (seek-on (link ch) (hits key x) (hd (x % B)) l).1

  pub found-key : (x : ℕ) → 0 < found B key hd ch x → key (found B key hd ch x - 1) ≡ x
  unfolding look
  found-key x l = eqb-true _ x (seek-on (link ch) (hits key x) (hd (x % B)) l).0

  pub found-hit : (x : ℕ) → 0 < found B key hd ch x
      → (key (found B key hd ch x - 1) ≡ x) × (found B key hd ch x ≤ i) × (eqn (found B key hd ch x - 1) ≡ false) × (0 < ch (found B key hd ch x - 1))
  found-hit x l =
      let o = found-on x l in
      let h : found B key hd ch x - 1 < i = on-place (x % B) _ o in
      let f = F.filed (x % B) _ o in
      (found-key x l, omega arith, f.0, f.1)

  -- Each application that does not wait is found, if none waits.
  pub all_known : ((j : ℕ) → j < i → eqn j ≡ false → 0 < ch j) → (j : ℕ) → j < i → eqn j ≡ false
      → (0 < found B key hd ch (key j)) × (res (found B key hd ch (key j) - 1) ≡ res j)
  all_known n j l e = elim (F.known j l e (n j l e)) [ inl h ↦ h | inr w ↦ (let g = n w.0 w.1 w.2 in absurd (omega (arith, w.3))) ]

  -- The head of a bucket's chain is taken out, and waits.
  module _ (b r : ℕ) (head : hd b ≡ suc r) where
    abbrev hd₁ : ℕ → ℕ
    hd₁ = put b (ch r - 1) hd

    abbrev ch₁ : ℕ → ℕ
    ch₁ = put r 0 ch

    pub pop-on : On (link ch) (hd b) r
    pop-on = rw head here

    pub pop-place : r < i
    pop-place = on-place b r pop-on

    -- Another bucket's chain does not come by it, nor what is below it.
    apart : (c q : ℕ) → c ≢ b → On (link ch) (hd c) q → q ≢ r
    apart c q n o e = n (sym (F.filed c r (rw e at o)).2 ∙ (F.filed b r pop-on).2)

    lower : (q : ℕ) → On (link ch) (link ch r) q → q ≢ r
    lower q o e = let g = on_below (link ch r) q o in let h = falls' r in omega arith

    own : (x : ℕ) → x % B ≡ b → found B key hd₁ ch₁ x ≡ seek_to (link ch) (hits key x) (link ch r)
    unfolding look
    own x e = rw (e, put-hit b (ch r - 1) hd)
        (sym (seek-along (link ch) (link ch₁) (hits key x) (hits key x) (link ch r) falls' (λ q o. put-link r 0 ch q (lower q o)) (λ q o. refl)))

    pub pop-found : (x : ℕ) → ((found B key hd ch x ≡ suc r) × (key r ≡ x)) ⊎ (found B key hd₁ ch₁ x ≡ found B key hd ch x)
    pop-found x = by-same (x % B) b
        (λ e. by-same (key r) x
        (λ k. inl (found-step B key hd ch x r (rw e head) falls' ∙ rw (eq-eqb (key r) x k), k))
        (λ k. inr (own x e ∙ sym (found-step B key hd ch x r (rw e head) falls' ∙ rw (ne_eqb (key r) x k)))))
        (λ n. inr (found-along B key key hd hd₁ ch ch₁ x (sym (put-miss b (ch r - 1) hd (x % B) n)) falls'
        (λ q o. put-link r 0 ch q (apart (x % B) q n o)) (λ q o. refl)))

    -- A place of a chain was on that chain, and is not r.
    stays : (c q : ℕ) → On (link ch₁) (hd₁ c) q → On (link ch) (hd c) q × (q ≢ r)
    stays c q o = by-same c b
        (λ e. let o' : On (link ch₁) (link ch r) q = rw (put-hit b (ch r - 1) hd) at (rw e at o) in
        let u : On (link ch) (link ch r) q = on-back (λ s h. put-link r 0 ch s (lower s h)) o' in
        (rw (e, head) (further u), lower q u))
        (λ n. let o' : On (link ch₁) (hd c) q = rw (put-miss b (ch r - 1) hd c n) at o in
        let u : On (link ch) (hd c) q = on-back (λ s h. put-link r 0 ch s (apart c s n h)) o' in
        (u, apart c q n u))

    pub pop : Filed B i eqn key res hd₁ ch₁
    pop = record {
      heads = λ c. by-same c b (λ e. rw (e, put-hit b (ch r - 1) hd) (omega (arith, falls' r, pop-place))) (λ n. rw (put-miss b (ch r - 1) hd c n) (F.heads c));
      falls = put-falls r 0 ch (omega arith) F.falls;
      filed = λ c q o. let s = stays c q o in let f = F.filed c q s.0 in (f.0, rw (put-miss r 0 ch q s.1) f.1, f.2);
      known = λ j l e h. elim (F.known j l e (rw (put-miss r 0 ch j (put-zero-other r ch j h)) at h)) [
        | inl k ↦ elim (pop-found (key j)) [
          | inl g ↦ inr (r, pop-place, (F.filed b r pop-on).0, put-hit r 0 ch, g.1, (let z : suc r - 1 ≡ r = omega arith in rw (g.0, z) at k.1))
          | inr g ↦ inl (rw g k.0, rw g k.1)
        ]
        | inr w ↦ inr (w.0, w.1, w.2, put-zero r ch w.0 w.3, w.4, w.5)
      ];
    }

  -- A place that waits is on no chain.
  waiting-off : (j : ℕ) → ch j ≡ 0 → (c q : ℕ) → On (link ch) (hd c) q → q ≢ j
  waiting-off j z c q o e = let f = (F.filed c j (rw e at o)).1 in omega (arith, z)

  -- One that waits is put at the head of its bucket's chain.
  module _ (j : ℕ) (place : j < i) (app : eqn j ≡ false) (waits : ch j ≡ 0) (low : hd (key j % B) ≤ j) (new : found B key hd ch (key j) ≡ 0) where
    abbrev hd₂ : ℕ → ℕ
    hd₂ = put (key j % B) (suc j) hd

    abbrev ch₂ : ℕ → ℕ
    ch₂ = put j (suc (hd (key j % B))) ch

    falls₂ : (r : ℕ) → ch₂ r ≤ suc r
    falls₂ = put-falls j (suc (hd (key j % B))) ch (omega (arith, low)) F.falls

    downs₂ : (r : ℕ) → link ch₂ r ≤ r
    downs₂ r = omega (arith, falls₂ r)

    link_here : link ch₂ j ≡ hd (key j % B)
    link_here = rw (put-hit j (suc (hd (key j % B))) ch) (omega arith)

    kept : (c q : ℕ) → On (link ch) (hd c) q → link ch q ≡ link ch₂ q
    kept c q o = put-link j (suc (hd (key j % B))) ch q (waiting-off j waits c q o)

    pub file-here : found B key hd₂ ch₂ (key j) ≡ suc j
    file-here = found-step B key hd₂ ch₂ (key j) j (put-hit (key j % B) (suc j) hd) downs₂ ∙ rw (eq-eqb (key j) (key j) refl)

    pub file-else : (x : ℕ) → key j ≢ x → found B key hd₂ ch₂ x ≡ found B key hd ch x
    unfolding look
    file-else x n = by-same (x % B) (key j % B)
        (λ e. found-step B key hd₂ ch₂ x j (rw e (put-hit (key j % B) (suc j) hd)) downs₂
        ∙ rw (ne_eqb (key j) x n, link_here, e) (sym (seek-along (link ch) (link ch₂) (hits key x) (hits key x) (hd (key j % B)) falls' (kept (key j % B)) (λ q o. refl))))
        (λ d. found-along B key key hd hd₂ ch ch₂ x (sym (put-miss (key j % B) (suc j) hd (x % B) d)) falls' (kept (x % B)) (λ q o. refl))

    filed-old : (c q : ℕ) → On (link ch₂) (hd c) q → (eqn q ≡ false) × (0 < ch₂ q) × (key q % B ≡ c)
    filed-old c q o =
        let u : On (link ch) (hd c) q = on-back (kept c) o in
        let f = F.filed c q u in
        (f.0, rw (put-miss j (suc (hd (key j % B))) ch q (waiting-off j waits c q u)) f.1, f.2)

    filed-new : (q : ℕ) → On (link ch₂) (suc j) q → (eqn q ≡ false) × (0 < ch₂ q) × (key q % B ≡ key j % B)
    filed-new q o = elim (on-next o) [
      | inl e ↦ (rw e app, rw (e, put-hit j (suc (hd (key j % B))) ch) (omega arith), rw e)
      | inr u ↦ filed-old (key j % B) q (rw link_here at u)
    ]

    known-here : (k : ℕ) → key j ≡ key k → res j ≡ res k → Known B i eqn key res hd₂ ch₂ k
    known-here k e h = let z : suc j - 1 ≡ j = omega arith in inl (rw (← e, file-here) (omega arith), rw (← e, file-here, z) h)

    pub file : Filed B i eqn key res hd₂ ch₂
    file = record {
      heads = λ c. by-same c (key j % B) (λ e. rw (e, put-hit (key j % B) (suc j) hd) (omega (arith, place))) (λ n. rw (put-miss (key j % B) (suc j) hd c n) (F.heads c));
      falls = falls₂;
      filed = λ c q o. by-same c (key j % B)
          (λ e. rw e (filed-new q (rw (put-hit (key j % B) (suc j) hd) at (rw e at o))))
          (λ n. filed-old c q (rw (put-miss (key j % B) (suc j) hd c n) at o));
      known = λ k l e h. by-same k j
          (λ s. known-here k (rw s) (rw s))
          (λ n. elim (F.known k l e (rw (put-miss j (suc (hd (key j % B))) ch k n) at h)) [
            | inl g ↦ (let d : key j ≢ key k = (λ s. let y : found B key hd ch (key k) ≡ 0 = rw (← s) new in omega (arith, g.0)) in
                inl (rw (file-else (key k) d) g.0, rw (file-else (key k) d) g.1))
            | inr w ↦ by-same w.0 j
                (λ s. known-here k (rw s at w.4) (rw s at w.5))
                (λ d. inr (w.0, w.1, w.2, rw (put-miss j (suc (hd (key j % B))) ch w.0 d) w.3, w.4, w.5))
          ]);
    }

  -- One that waits has the key and the result of what is found, and waits no longer. Links are as they were.
  module _ (j : ℕ) (place : j < i) (app : eqn j ≡ false) (waits : ch j ≡ 0) where
    shade-link : (q : ℕ) → link ch q ≡ link (put j 1 ch) q
    shade-link q = by-same q j (λ e. rw (e, put-hit j 1 ch, waits) (omega arith)) (λ n. put-link j 1 ch q n)

    pub shade-found : (x : ℕ) → found B key hd (put j 1 ch) x ≡ found B key hd ch x
    shade-found x = found-along B key key hd hd ch (put j 1 ch) x refl falls' (λ q o. shade-link q) (λ q o. refl)

    pub shade : 0 < found B key hd ch (key j) → res (found B key hd ch (key j) - 1) ≡ res j → Filed B i eqn key res hd (put j 1 ch)
    shade some same = record {
      heads = F.heads;
      falls = put-falls j 1 ch (omega arith) F.falls;
      filed = λ c q o.
          let u : On (link ch) (hd c) q = on-back (λ s h. shade-link s) o in
          let f = F.filed c q u in
          (f.0, rw (put-miss j 1 ch q (waiting-off j waits c q u)) f.1, f.2);
      known = λ k l e h. by-same k j
          (λ s. by-found k (rw s) (rw s))
          (λ n. elim (F.known k l e (rw (put-miss j 1 ch k n) at h)) [
            | inl g ↦ inl (rw (shade-found (key k)) g.0, rw (shade-found (key k)) g.1)
            | inr w ↦ by-same w.0 j
                (λ s. by-found k (rw s at w.4) (rw s at w.5))
                (λ d. inr (w.0, w.1, w.2, rw (put-miss j 1 ch w.0 d) w.3, w.4, w.5))
          ]);
    }
      where
        by-found : (k : ℕ) → key j ≡ key k → res j ≡ res k → Known B i eqn key res hd (put j 1 ch) k
        by-found k e h = inl (rw (← e, shade-found (key j)) some, rw (← e, shade-found (key j)) (same ∙ h))

  -- New keys and results: those that do not wait have their keys, and what was the same is the same.
  module _ (key' : ℕ → ℕ) (keys : (j : ℕ) → j < i → eqn j ≡ false → 0 < ch j → key' j ≡ key j) where
    keys_on : (c q : ℕ) → On (link ch) (hd c) q → key' q ≡ key q
    keys_on c q o = let f = F.filed c q o in keys q (on-place c q o) f.0 f.1

    pub renamed-found : (x : ℕ) → found B key' hd ch x ≡ found B key hd ch x
    renamed-found x = found-along B key key' hd hd ch ch x refl falls' (λ q o. refl) (λ q o. sym (keys_on (x % B) q o))

    pub renamed : (res' : ℕ → ℕ) → ((j r : ℕ) → j < i → r < i → eqn j ≡ false → eqn r ≡ false → key r ≡ key j → key' r ≡ key' j)
        → ((j r : ℕ) → res j ≡ res r → res' j ≡ res' r) → Filed B i eqn key' res' hd ch
    renamed res' pairs same = record {
      heads = F.heads;
      falls = F.falls;
      filed = λ c q o. let f = F.filed c q o in (f.0, f.1, rw (keys_on c q o) f.2);
      known = λ j l e h. elim (F.known j l e h) [
        | inl g ↦ inl (rw (keys j l e h, renamed-found (key j)) g.0, rw (keys j l e h, renamed-found (key j)) (same _ j g.1))
        | inr w ↦ inr (w.0, w.1, w.2, w.3, pairs j w.0 l w.1 e w.2 w.4, same w.0 j w.5)
      ];
    }

  -- Place i comes in: it waits, or is an equation.
  module _ (v : ℕ) where
    more-off : (c q : ℕ) → On (link ch) (hd c) q → q ≢ i
    more-off c q o e = let g = on-place c q o in omega arith

    pub more-found : (x : ℕ) → found B key hd (put i v ch) x ≡ found B key hd ch x
    more-found x = found-along B key key hd hd ch (put i v ch) x refl falls' (λ q o. put-link i v ch q (more-off (x % B) q o)) (λ q o. refl)

    pub more : v ≤ 1 → (v ≡ 0) ⊎ (eqn i ≡ true) → Filed B (suc i) eqn key res hd (put i v ch)
    more l c = record {
      heads = λ b. omega (arith, F.heads b);
      falls = put-falls i v ch (omega arith) F.falls;
      filed = λ b q o.
          let u : On (link ch) (hd b) q = on-back (λ s h. put-link i v ch s (more-off b s h)) o in
          let f = F.filed b q u in
          (f.0, rw (put-miss i v ch q (more-off b q u)) f.1, f.2);
      known = λ j m e h. by-same j i
          (λ s. elim c [ inl z ↦ (let y : put i v ch j ≡ 0 = rw (s, put-hit i v ch) z in absurd (omega (arith, h))) | inr q ↦ clash q (rw s at e) ])
          (λ n. elim (F.known j (omega arith) e (rw (put-miss i v ch j n) at h)) [
            | inl g ↦ inl (rw (more-found (key j)) g.0, rw (more-found (key j)) g.1)
            | inr w ↦ (let d : w.0 < i = w.1 in inr (w.0, omega arith, w.2, rw (put-miss i v ch w.0 (omega arith)) w.3, w.4, w.5))
          ]);
    }

-- The lists of the tags.
pub uses-none : {eqn : ℕ → Bool} {tag hd nx : ℕ → ℕ} → ((t : ℕ) → hd t ≡ 0) → Uses 0 eqn tag hd nx
uses-none z = record {
  heads = λ t. omega (arith, z t);
  falls = λ r l. absurd (omega arith);
  apps = λ t r o. absurd (on_none (rw (z t) at o));
  listed = λ j l. absurd (omega arith);
}

module _ {i : ℕ} {eqn : ℕ → Bool} {tag hd nx : ℕ → ℕ} (U : Uses i eqn tag hd nx) where
  uses-low : {p r : ℕ} → p ≤ i → ((q : ℕ) → On nx p q → eqn q ≡ false) → On nx p r → r < p
  uses-low l a here = omega arith
  uses-low l a (further {q = q} o) =
      let d : nx q ≤ q = U.falls q (omega arith) (a q here) in
      let h = uses-low (omega arith) (λ t u. a t (further u)) o in
      omega arith

  pub uses-place : (t r : ℕ) → On nx (hd t) r → r < i
  uses-place t r o = omega (arith, uses-low (U.heads t) (λ q. U.apps t q) o, U.heads t)

  -- Place i is an equation.
  pub uses-eq : eqn i ≡ true → Uses (suc i) eqn tag hd nx
  uses-eq q = record {
    heads = λ t. omega (arith, U.heads t);
    falls = below (λ r. eqn r ≡ false → nx r ≤ r) i U.falls (λ e. clash q e);
    apps = U.apps;
    listed = below (λ j. eqn j ≡ false → On nx (hd (tag j)) j) i U.listed (λ e. clash q e);
  }

  -- Place i is put at the head of its tag's list.
  module _ (app : eqn i ≡ false) where
    abbrev hd₃ : ℕ → ℕ
    hd₃ = put (tag i) (suc i) hd

    abbrev nx₃ : ℕ → ℕ
    nx₃ = put i (hd (tag i)) nx

    kept₃ : (t q : ℕ) → On nx (hd t) q → nx q ≡ nx₃ q
    kept₃ t q o = let g = uses-place t q o in sym (put-miss i (hd (tag i)) nx q (omega arith))

    pub uses-app : Uses (suc i) eqn tag hd₃ nx₃
    uses-app = record {
      heads = λ t. by-same t (tag i) (λ e. rw (e, put-hit (tag i) (suc i) hd) (omega arith)) (λ n. rw (put-miss (tag i) (suc i) hd t n) (omega (arith, U.heads t)));
      falls = below (λ r. eqn r ≡ false → nx₃ r ≤ r) i (λ r h e. rw (put-miss i (hd (tag i)) nx r (omega arith)) (U.falls r h e)) (λ e. rw (put-hit i (hd (tag i)) nx) (U.heads (tag i)));
      apps = λ t r o. by-same t (tag i)
          (λ e. elim (on-next (rw (put-hit (tag i) (suc i) hd) at (rw e at o))) [
            | inl s ↦ rw s app
            | inr u ↦ U.apps (tag i) r (on-back (kept₃ (tag i)) (rw (put-hit i (hd (tag i)) nx) at u))
          ])
          (λ n. U.apps t r (on-back (kept₃ t) (rw (put-miss (tag i) (suc i) hd t n) at o)));
      listed = λ j h e. by-same j i
          (λ s. rw (s, put-hit (tag i) (suc i) hd) here)
          (λ n. let o : On nx₃ (hd (tag j)) j = on-along (kept₃ (tag j)) (U.listed j (omega arith) e) in
          by-same (tag j) (tag i)
          (λ s. rw (s, put-hit (tag i) (suc i) hd) (further {q = i} {r = j} (rw (put-hit i (hd (tag i)) nx) (rw s at o))))
          (λ d. rw (put-miss (tag i) (suc i) hd (tag j) d) o));
    }
