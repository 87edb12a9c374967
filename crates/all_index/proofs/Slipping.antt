-- A chain leads down, so of its places the lower is behind the higher, and a place that falls between two neighbours is not on it. So a place behind another is taken out,
-- or put in, by links of these two only: the chain is the same but for it, and so is every search that it does not end. Assumes nothing.
use Prim.Native.Nat.{ℕ, zero, suc, ◌-◌, ◌%◌, ◌≤◌, ◌<◌}
use native.Mathlib.Omega.{arith}
use native.Mathlib.Decide.{ℕ_discrete}
use mathlib.Core.Path.{◌≡◌, refl, sym, ◌∙◌}
use mathlib.Core.Logic.{◌≢◌, ◌⊎◌, inl, inr}
use mathlib.Core.Bool.{Bool, true, false}
use borrow.Author.Tests.{eq-eqb, eqb-true}
use Rattle.meaning.specs.Joins.{put}
use Rattle.meaning.proofs.Log.{put-hit, put-miss}
use Rattle.table_labels.specs.Chain.{seek_to, hits, look}
use Rattle.table_labels.proofs.Chain.{seek-step, seek-none}
use Rattle.all_index.specs.Filing.{On, here, further, link, found, Known, Filed}
use Rattle.all_index.proofs.Filing.{on-next, on-low, on-along, on-back, seek-along, found-along, falls', on_below, on-place}

by-same : {C : Type 0} (a b : ℕ) → (a ≡ b → C) → (a ≢ b → C) → C
by-same a b f g = elim (ℕ_discrete a b) [ yes e ↦ f e | no n ↦ g n ]

by_bool : {C : Type 0} (b : Bool) → (b ≡ true → C) → (b ≡ false → C) → C
by_bool true f g = f refl
by_bool false f g = g refl

-- Of two places of one chain the lower is behind the higher.
pub on-order : {nx : ℕ → ℕ} {p q j : ℕ} → ((r : ℕ) → nx r ≤ r) → On nx p q → On nx p j → j < q → On nx (nx q) j
on-order fall here u l = elim (on-next u) [ inl e ↦ absurd (omega arith) | inr v ↦ v ]
on-order {nx = nx} fall (further {q = t} o) u l = elim (on-next u) [
  | inl e ↦ (let g = on-low {i = nx t} (λ s m. fall s) (omega arith) o in let h = fall t in absurd (omega arith))
  | inr v ↦ on-order fall o v l
]

-- A search that finds nothing has no hit on its chain.
pub seek-never : {nx : ℕ → ℕ} {p r : ℕ} (hit : ℕ → Bool) → ((s : ℕ) → nx s ≤ s) → On nx p r → hit r ≡ true → seek_to nx hit p ≡ 0 → ⊥
seek-never {nx = nx} {r = r} hit fall here e z = let y : suc r ≡ 0 = rw (seek-step nx hit fall r, e) at z in omega arith
seek-never {nx = nx} hit fall (further {q = t} o) e z = by_bool (hit t)
    (λ h. let y : suc t ≡ 0 = rw (seek-step nx hit fall t, h) at z in omega arith)
    (λ h. seek-never hit fall o e (rw (seek-step nx hit fall t, h) at z))

-- The links nx lead from q to r, and nx' past r to what is behind it. Elsewhere they agree, so but for r they make one chain.
module _ (nx nx' : ℕ → ℕ) (q r : ℕ) (fall : (s : ℕ) → nx s ≤ s) (fall' : (s : ℕ) → nx' s ≤ s) (over : nx q ≡ suc r) (past : nx' q ≡ nx r)
    (rest : (s : ℕ) → s ≢ q → s ≢ r → nx s ≡ nx' s) where
  behind : (s : ℕ) → On nx (nx r) s → nx s ≡ nx' s
  behind s o =
      let g = on-low {i = nx r} (λ t m. fall t) (omega arith) o in
      let h = fall r in
      let d = fall q in
      rest s (omega (arith, over)) (omega arith)

  skip-on : {p s : ℕ} → (On nx' p r → ⊥) → On nx' p s → On nx p s
  skip-on off here = here
  skip-on {s = s} off (further {q = t} o) =
      let u : On nx (nx' t) s = skip-on (λ h. off (further h)) o in
      by-same t q
      (λ e. let v : On nx (nx r) s = rw past at (rw e at u) in rw e (further {q = q} {r = s} (rw over (further v))))
      (λ n. further (rw (rest t n (λ e. off (rw e here))) u))

  skip-back : {p s : ℕ} → (On nx' p r → ⊥) → On nx p s → (s ≡ r) ⊎ On nx' p s
  skip-back off here = inr here
  skip-back {s = s} off (further {q = t} o) = by-same t q
      (λ e. elim (on-next (rw over at (rw e at o))) [ inl h ↦ inl h | inr u ↦ (let v : On nx' (nx r) s = on-along behind u in inr (rw e (further {q = q} {r = s} (rw past v)))) ])
      (λ n. let z : nx t ≡ nx' t = rest t n (λ e. off (rw e here)) in
      elim (skip-back (λ h. off (further (rw z at h))) o) [ inl h ↦ inl h | inr u ↦ inr (further (rw z at u)) ])

  -- Before it comes by r it comes by q.
  skip-from : {p : ℕ} → On nx p r → (On nx' p r → ⊥) → On nx' p q
  skip-from here off = absurd (off here)
  skip-from (further {q = t} o) off = by-same t q
      (λ e. rw e here)
      (λ n. let z : nx t ≡ nx' t = rest t n (λ e. off (rw e here)) in further (rw z at (skip-from o (λ h. off (further (rw z at h))))))

  -- The chain by nx' does not come by r, if only q leads there.
  skip-off : {p : ℕ} → On nx' p r → p ≢ suc r → ((s : ℕ) → On nx p s → nx s ≡ suc r → s ≡ q) → ⊥
  skip-off here n only = n refl
  skip-off (further {q = t} o) n only = by-same t q
      (λ e. let u : On nx' (nx r) r = rw past at (rw e at o) in
      let g = on-low {i = nx r} (λ s m. fall' s) (omega arith) u in
      omega (arith, fall r))
      (λ d. let z : nx t ≡ nx' t = rest t d (λ e. n (rw e)) in
      skip-off o (rw (← z) (λ y. d (only t here y))) (λ s h. only s (further (rw z h))))

  skip-seek : (hit : ℕ → Bool) (n p : ℕ) → p ≤ n → (On nx' p r → ⊥) → ((seek_to nx hit p ≡ suc r) × (hit r ≡ true)) ⊎ (seek_to nx' hit p ≡ seek_to nx hit p)
  skip-seek hit zero zero l off = inr (seek-none nx' hit fall' ∙ sym (seek-none nx hit fall))
  skip-seek hit zero (suc t) l off = absurd (omega (arith, l))
  skip-seek hit (suc n) zero l off = inr (seek-none nx' hit fall' ∙ sym (seek-none nx hit fall))
  skip-seek hit (suc n) (suc t) l off = by_bool (hit t)
      (λ h. inr (rw (seek-step nx hit fall t, seek-step nx' hit fall' t, h)))
      (λ h. let a : seek_to nx hit (suc t) ≡ seek_to nx hit (nx t) = rw (seek-step nx hit fall t, h) in
      let b : seek_to nx' hit (suc t) ≡ seek_to nx' hit (nx' t) = rw (seek-step nx' hit fall' t, h) in
      by-same t q
      (λ e. let c : seek_to nx hit (suc t) ≡ seek_to nx hit (suc r) = a ∙ rw (e, over) in
      let d : seek_to nx' hit (suc t) ≡ seek_to nx' hit (nx r) = b ∙ rw (e, past) in
      by_bool (hit r)
      (λ k. inl (c ∙ rw (seek-step nx hit fall r, k), k))
      (λ k. let f : seek_to nx hit (suc r) ≡ seek_to nx hit (nx r) = rw (seek-step nx hit fall r, k) in
      inr (d ∙ sym (c ∙ f ∙ seek-along nx nx' hit hit (nx r) fall behind (λ s o. refl)))))
      (λ m. let z : nx t ≡ nx' t = rest t m (λ e. off (rw e here)) in
      let g = fall t in
      elim (skip-seek hit n (nx t) (omega arith) (λ o. off (further (rw z at o)))) [
        | inl k ↦ inl (a ∙ k.0, k.1)
        | inr k ↦ inr (b ∙ rw (← z) k ∙ sym a)
      ]))

module _ {B i : ℕ} {eqn : ℕ → Bool} {key res hd ch : ℕ → ℕ} (F : Filed B i eqn key res hd ch) where
  -- A place can only be on the chain of its own bucket.
  pub own-bucket : (j b : ℕ) → On (link ch) (hd b) j → b ≡ key j % B
  own-bucket j b o = sym (F.filed b j o).2

  -- A place between q and what is behind q is not on the chain.
  pub off-chain : (b q j : ℕ) → On (link ch) (hd b) q → j < q → link ch q ≤ j → On (link ch) (hd b) j → ⊥
  off-chain b q j o l m u = let g = on_below F (link ch q) j (on-order (falls' F) o u l) in omega arith

  -- A place that is on no chain is set to wait.
  module _ (j : ℕ) (off : (b : ℕ) → On (link ch) (hd b) j → ⊥) where
    out-off : (c q : ℕ) → On (link ch) (hd c) q → q ≢ j
    out-off c q o e = off c (rw e at o)

    out-link : (q : ℕ) → q ≢ j → link ch q ≡ link (put j 0 ch) q
    out-link q n = rw (put-miss j 0 ch q n)

    pub wait-out-found : (x : ℕ) → found B key hd (put j 0 ch) x ≡ found B key hd ch x
    wait-out-found x = found-along B key key hd hd ch (put j 0 ch) x refl (falls' F) (λ q o. out-link q (out-off (x % B) q o)) (λ q o. refl)

    out-falls : (q : ℕ) → put j 0 ch q ≤ suc q
    out-falls q = by-same q j (λ e. rw (e, put-hit j 0 ch) (omega arith)) (λ n. rw (put-miss j 0 ch q n) (F.falls q))

    out-other : (q : ℕ) → 0 < put j 0 ch q → q ≢ j
    out-other q l e = let h : put j 0 ch q ≡ 0 = rw (e, put-hit j 0 ch) in omega arith

    out-zero : (q : ℕ) → ch q ≡ 0 → put j 0 ch q ≡ 0
    out-zero q z = by-same q j (λ e. rw (e, put-hit j 0 ch)) (λ n. rw (put-miss j 0 ch q n) z)

    pub wait-out : Filed B i eqn key res hd (put j 0 ch)
    wait-out = record {
      heads = F.heads;
      falls = out-falls;
      filed = λ c q o.
          let u : On (link ch) (hd c) q = on-back (λ s h. out-link s (out-off c s h)) o in
          let f = F.filed c q u in
          (f.0, rw (put-miss j 0 ch q (out-off c q u)) f.1, f.2);
      known = λ k l e h. elim (F.known k l e (rw (put-miss j 0 ch k (out-other k h)) at h)) [
        | inl g ↦ inl (rw (wait-out-found (key k)) g.0, rw (wait-out-found (key k)) g.1)
        | inr w ↦ inr (w.0, w.1, w.2, out-zero w.0 w.3, w.4, w.5)
      ];
    }

  -- The place r behind q is taken out, and waits; q leads on to what r led on to.
  module _ (b q r : ℕ) (at : On (link ch) (hd b) q) (next : link ch q ≡ suc r) where
    abbrev ch₁ : ℕ → ℕ
    ch₁ = put q (ch r) (put r 0 ch)

    pub slip-low : r < q
    slip-low = let h = falls' F q in omega (arith, next)

    after : {p : ℕ} → On (link ch) p q → On (link ch) p r
    after here = further {q = q} {r = r} (rw next here)
    after (further o) = further (after o)

    pub slip-on : On (link ch) (hd b) r
    slip-on = after at

    pub slip-place : r < i
    slip-place = on-place F b r slip-on

    r-filed : (eqn r ≡ false) × (0 < ch r) × (key r % B ≡ b)
    r-filed = F.filed b r slip-on

    at-q : ch₁ q ≡ ch r
    at-q = put-hit q (ch r) (put r 0 ch)

    at-r : ch₁ r ≡ 0
    at-r = let l = slip-low in put-miss q (ch r) (put r 0 ch) r (omega arith) ∙ put-hit r 0 ch

    at-else : (s : ℕ) → s ≢ q → s ≢ r → ch₁ s ≡ ch s
    at-else s n m = put-miss q (ch r) (put r 0 ch) s n ∙ put-miss r 0 ch s m

    falls₁ : (s : ℕ) → ch₁ s ≤ suc s
    falls₁ s = by-same s q
        (λ e. rw (e, at-q) (omega (arith, F.falls r, slip-low)))
        (λ n. by-same s r (λ e. rw (e, at-r) (omega arith)) (λ m. rw (at-else s n m) (F.falls s)))

    downs₁ : (s : ℕ) → link ch₁ s ≤ s
    downs₁ s = omega (arith, falls₁ s)

    past₁ : link ch₁ q ≡ link ch r
    past₁ = rw at-q

    rest₁ : (s : ℕ) → s ≢ q → s ≢ r → link ch s ≡ link ch₁ s
    rest₁ s n m = rw (at-else s n m)

    -- Only q leads to r.
    only₁ : (c s : ℕ) → On (link ch) (hd c) s → link ch s ≡ suc r → s ≡ q
    only₁ c s o e = by-same s q (λ z. z) (λ n. absurd (differ n))
      where
        on-r : {p : ℕ} → On (link ch) p s → On (link ch) p r
        on-r here = further {q = s} {r = r} (rw e here)
        on-r (further u) = further (on-r u)

        same : c ≡ b
        same = own-bucket r c (on-r o) ∙ r-filed.2

        o' : On (link ch) (hd b) s
        o' = rw same at o

        differ : s ≢ q → ⊥
        differ n = elim (ℕ_discrete (s - q) 0) [
          | yes z ↦ (let g = off-chain b q s at (omega arith) in let h = falls' F s in g (omega (arith, next, e)) o')
          | no z ↦ (let g = off-chain b s q o' (omega arith) in let h = falls' F q in g (omega (arith, next, e)) at)
        ]

    first₁ : (c : ℕ) → hd c ≢ suc r
    first₁ c z =
        let o : On (link ch) (hd c) r = rw z here in
        let e : c ≡ b = own-bucket r c o ∙ r-filed.2 in
        let g : q < hd b = on_below F (hd b) q at in
        let h : hd b ≡ suc r = rw e at z in
        omega (arith, slip-low)

    off₁ : (c : ℕ) → On (link ch₁) (hd c) r → ⊥
    off₁ c o = skip-off (link ch) (link ch₁) q r (falls' F) downs₁ next past₁ rest₁ o (first₁ c) (only₁ c)

    pub slip-out-found : (x : ℕ) → ((found B key hd ch x ≡ suc r) × (key r ≡ x)) ⊎ (found B key hd ch₁ x ≡ found B key hd ch x)
    unfolding look
    slip-out-found x = elim (skip-seek (link ch) (link ch₁) q r (falls' F) downs₁ next past₁ rest₁ (hits key x) (hd (x % B)) (hd (x % B)) (omega arith) (off₁ (x % B))) [
      | inl h ↦ inl (h.0, eqb-true _ x h.1)
      | inr h ↦ inr h
    ]

    stays₁ : (c s : ℕ) → On (link ch₁) (hd c) s → On (link ch) (hd c) s × (s ≢ r)
    stays₁ c s o = (skip-on (link ch) (link ch₁) q r (falls' F) downs₁ next past₁ rest₁ (off₁ c) o, λ e. off₁ c (rw e at o))

    some₁ : (s : ℕ) → s ≢ r → 0 < ch s → 0 < ch₁ s
    some₁ s n l = by-same s q (λ e. rw (e, at-q) r-filed.1) (λ m. rw (at-else s m n) l)

    was₁ : (s : ℕ) → 0 < ch₁ s → (s ≢ r) × (0 < ch s)
    was₁ s l = by-same s r
        (λ e. let y : ch₁ s ≡ 0 = rw (e, at-r) in absurd (omega (arith, l)))
        (λ n. (n, by-same s q (λ e. rw e (omega (arith, next))) (λ m. rw (at-else s m n) at l)))

    zero₁ : (s : ℕ) → ch s ≡ 0 → ch₁ s ≡ 0
    zero₁ s z = by-same s r
        (λ e. rw (e, at-r))
        (λ n. by-same s q (λ e. let y : ch q ≡ 0 = rw e at z in absurd (omega (arith, next))) (λ m. rw (at-else s m n) z))

    pub slip-out : Filed B i eqn key res hd ch₁
    slip-out = record {
      heads = F.heads;
      falls = falls₁;
      filed = λ c s o. let u = stays₁ c s o in let f = F.filed c s u.0 in (f.0, some₁ s u.1 f.1, f.2);
      known = λ j l e h. elim (F.known j l e (was₁ j h).1) [
        | inl k ↦ elim (slip-out-found (key j)) [
          | inl g ↦ inr (r, slip-place, r-filed.0, at-r, g.1, (let z : suc r - 1 ≡ r = omega arith in rw (g.0, z) at k.1))
          | inr g ↦ inl (rw g k.0, rw g k.1)
        ]
        | inr w ↦ inr (w.0, w.1, w.2, zero₁ w.0 w.3, w.4, w.5)
      ];
    }

  -- One that waits is put in behind q.
  module _ (q j : ℕ) (at : On (link ch) (hd (key j % B)) q) (above : j < q) (under : link ch q ≤ j) (place : j < i) (app : eqn j ≡ false) (waits : ch j ≡ 0)
      (new : found B key hd ch (key j) ≡ 0) where
    abbrev ch₂ : ℕ → ℕ
    ch₂ = put j (ch q) (put q (suc (suc j)) ch)

    q-filed : (eqn q ≡ false) × (0 < ch q) × (key q % B ≡ key j % B)
    q-filed = F.filed (key j % B) q at

    in-j : ch₂ j ≡ ch q
    in-j = put-hit j (ch q) (put q (suc (suc j)) ch)

    in-q : ch₂ q ≡ suc (suc j)
    in-q = put-miss j (ch q) (put q (suc (suc j)) ch) q (omega (arith, above)) ∙ put-hit q (suc (suc j)) ch

    in-else : (s : ℕ) → s ≢ q → s ≢ j → ch₂ s ≡ ch s
    in-else s n m = put-miss j (ch q) (put q (suc (suc j)) ch) s m ∙ put-miss q (suc (suc j)) ch s n

    falls₂ : (s : ℕ) → ch₂ s ≤ suc s
    falls₂ s = by-same s q
        (λ e. rw (e, in-q) (omega (arith, above)))
        (λ n. by-same s j (λ e. rw (e, in-j) (omega (arith, under))) (λ m. rw (in-else s n m) (F.falls s)))

    downs₂ : (s : ℕ) → link ch₂ s ≤ s
    downs₂ s = omega (arith, falls₂ s)

    over₂ : link ch₂ q ≡ suc j
    over₂ = rw in-q (omega arith)

    past₂ : link ch q ≡ link ch₂ j
    past₂ = rw in-j

    rest₂ : (s : ℕ) → s ≢ q → s ≢ j → link ch₂ s ≡ link ch s
    rest₂ s n m = rw (in-else s n m)

    -- What waits is on no chain.
    off₂ : (c : ℕ) → On (link ch) (hd c) j → ⊥
    off₂ c o = let f = (F.filed c j o).1 in omega (arith, waits)

    on₂ : On (link ch₂) (hd (key j % B)) j
    on₂ = after₂ (skip-on (link ch₂) (link ch) q j downs₂ (falls' F) over₂ past₂ rest₂ (off₂ (key j % B)) at)
      where
        after₂ : {p : ℕ} → On (link ch₂) p q → On (link ch₂) p j
        after₂ here = further {q = q} {r = j} (rw over₂ here)
        after₂ (further o) = further (after₂ o)

    slip-in-found : (x : ℕ) → ((found B key hd ch₂ x ≡ suc j) × (key j ≡ x)) ⊎ (found B key hd ch x ≡ found B key hd ch₂ x)
    unfolding look
    slip-in-found x = elim (skip-seek (link ch₂) (link ch) q j downs₂ (falls' F) over₂ past₂ rest₂ (hits key x) (hd (x % B)) (hd (x % B)) (omega arith) (off₂ (x % B))) [
      | inl h ↦ inl (h.0, eqb-true _ x h.1)
      | inr h ↦ inr h
    ]

    pub slip-in-here : found B key hd ch₂ (key j) ≡ suc j
    unfolding look
    slip-in-here = elim (slip-in-found (key j)) [
      | inl h ↦ h.0
      | inr h ↦ absurd (seek-never (hits key (key j)) downs₂ on₂ (eq-eqb (key j) (key j) refl) (sym h ∙ new))
    ]

    pub slip-in-else : (x : ℕ) → key j ≢ x → found B key hd ch₂ x ≡ found B key hd ch x
    slip-in-else x n = elim (slip-in-found x) [ inl h ↦ absurd (n h.1) | inr h ↦ sym h ]

    known-here : (k : ℕ) → key j ≡ key k → res j ≡ res k → Known B i eqn key res hd ch₂ k
    known-here k e h = let z : suc j - 1 ≡ j = omega arith in inl (rw (← e, slip-in-here) (omega arith), rw (← e, slip-in-here, z) h)

    some₂ : (s : ℕ) → 0 < ch s → 0 < ch₂ s
    some₂ s l = by-same s q (λ e. rw (e, in-q) (omega arith)) (λ n. by-same s j (λ e. rw (e, in-j) q-filed.1) (λ m. rw (in-else s n m) l))

    was₂ : (s : ℕ) → s ≢ j → 0 < ch₂ s → 0 < ch s
    was₂ s n l = by-same s q (λ e. rw e q-filed.1) (λ m. rw (in-else s m n) at l)

    zero₂ : (s : ℕ) → s ≢ j → ch s ≡ 0 → ch₂ s ≡ 0
    zero₂ s n z = by-same s q (λ e. let y : ch q ≡ 0 = rw e at z in absurd (omega (arith, q-filed.1))) (λ m. rw (in-else s m n) z)

    pub slip-in : Filed B i eqn key res hd ch₂
    slip-in = record {
      heads = F.heads;
      falls = falls₂;
      filed = λ c s o. elim (skip-back (link ch₂) (link ch) q j downs₂ (falls' F) over₂ past₂ rest₂ (off₂ c) o) [
        | inl e ↦ (let u : On (link ch) (hd c) q = skip-from (link ch₂) (link ch) q j downs₂ (falls' F) over₂ past₂ rest₂ (rw e at o) (off₂ c) in
            (rw e app, rw (e, in-j) q-filed.1, rw e (sym q-filed.2 ∙ (F.filed c q u).2)))
        | inr u ↦ (let f = F.filed c s u in (f.0, some₂ s f.1, f.2))
      ];
      known = λ k l e h. by-same k j
          (λ s. known-here k (rw s) (rw s))
          (λ n. elim (F.known k l e (was₂ k n h)) [
            | inl g ↦ (let d : key j ≢ key k = (λ s. let y : found B key hd ch (key k) ≡ 0 = rw (← s) new in omega (arith, g.0)) in
                inl (rw (slip-in-else (key k) d) g.0, rw (slip-in-else (key k) d) g.1))
            | inr w ↦ by-same w.0 j
                (λ s. known-here k (rw s at w.4) (rw s at w.5))
                (λ d. inr (w.0, w.1, w.2, zero₂ w.0 d w.3, w.4, w.5))
          ]);
    }
