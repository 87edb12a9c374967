-- Going round a ring comes to an end: no tag comes twice, so there are at most N. And there are fewer joins than tags. Assumes nothing.
use Prim.Native.Nat.{ℕ, zero, suc, ◌+◌, ◌≤◌, ◌<◌}
use native.Mathlib.Omega.{arith}
use native.Mathlib.Decide.{ℕ_discrete, dec_lt}
use mathlib.Core.Path.{◌≡◌, refl, sym, ap, ◌∙◌}
use mathlib.Core.Logic.{◌≢◌}
use mathlib.Core.Bool.{Bool, true, false}
use mathlib.Core.List.{List, [], ◌∷◌, Memᴰ}
use lib.Dec.{eqb}
use lib.ListN.{length}
use borrow.Author.Tests.{eq-eqb, ne_eqb}
use Rattle.meaning.specs.Joins.{count}
use Rattle.meaning.specs.Labels.{into, classes}
use Rattle.meaning.proofs.Count.{count_low}
use Rattle.meaning.proofs.Relabel.{count-less-one}
use Rattle.meaning.proofs.Short.{among, among_in}
use Rattle.list_ways.specs.Rings.{Path, stop, step, Ring, Apart, none, more, Built, Ahead, away}
use Rattle.list_ways.proofs.Rings.{path-once, joined-x, joined-else}

pub record Next (N x : ℕ) (m : ℕ → ℕ) (z : ℕ) (R : List ℕ) : Type 0 where
  pub rest : List ℕ
  pub is : R ≡ z ∷ rest
  pub tag : z < N
  pub ahead : Ahead N m x (m z) rest

away-end : (m : ℕ → ℕ) (x n z : ℕ) → z ≡ x → away m x n z ≡ 0
away-end m x zero z e = refl
away-end m x (suc n) z e = rw (eq-eqb z x e)

module _ {N x : ℕ} {m : ℕ → ℕ} where
  -- At the end nothing is left; before it, the tag where one stands and the rest.
  pub ahead-end : {z : ℕ} {R : List ℕ} → z ≡ x → Ahead N m x z R → R ≡ []
  ahead-end {z} {R} e h = go h.path h.other
    where
      go : {K : List ℕ} → Path m z K x → ((v : ℕ) → Memᴰ v K → v ≢ x) → K ≡ []
      go (stop p) o = refl
      go (step {z = u} p q) o = absurd (o u (Memᴰ.head refl) (sym p ∙ e))

  pub ahead-next : {z : ℕ} {R : List ℕ} → z ≢ x → Ahead N m x z R → Next N x m z R
  ahead-next {z} {R} e h = go h.path h.other h.tags
    where
      go : {K : List ℕ} → Path m z K x → ((v : ℕ) → Memᴰ v K → v ≢ x) → ((v : ℕ) → Memᴰ v K → v < N) → Next N x m z K
      go (stop p) o t = absurd (e p)
      go (step {z = u} {L = L} p q) o t = record {
        rest = L;
        is = rw p;
        tag = t z (Memᴰ.head p);
        ahead = record { path = q; other = λ v i. o v (Memᴰ.tail i); tags = λ v i. t v (Memᴰ.tail i) };
      }

  pub away-length : (n z : ℕ) (R : List ℕ) → Ahead N m x z R → length R ≤ n → away m x n z ≡ length R
  away-length n z R h l = go n h.path h.other l
    where
      go : (n : ℕ) {z : ℕ} {K : List ℕ} → Path m z K x → ((v : ℕ) → Memᴰ v K → v ≢ x) → length K ≤ n → away m x n z ≡ length K
      go n {z} (stop p) o l = away-end m x n z p
      go zero (step p q) o l = absurd (omega arith)
      go (suc n) {z} (step {z = u} p q) o l = rw (ne_eqb z x (λ e. o u (Memᴰ.head refl) (sym p ∙ e)), go n q (λ v i. o v (Memᴰ.tail i)) (omega arith))

  -- No tag comes twice.
  count-path : {z : ℕ} {R : List ℕ} → Path m z R x → ((v : ℕ) → Memᴰ v R → v ≢ x) → ((v : ℕ) → Memᴰ v R → v < N) → count (among R) N ≡ length R + count (λ v. false) N
  count-path (stop p) o t = omega arith
  count-path {z} (step {z = u} {L = L} p q) o t =
      count-less-one (among (u ∷ L)) (among L) u (rw (eq-eqb u u refl)) (out (among L u) refl) (λ v d. rw (ne_eqb v u d)) N (t u (Memᴰ.head refl))
      ∙ ap suc (count-path q (λ v i. o v (Memᴰ.tail i)) (λ v i. t v (Memᴰ.tail i))) ∙ omega arith
    where
      whole : Path m u (u ∷ L) x
      whole = rw (← p) (step {y = x} refl q)

      out : (b : Bool) → among L u ≡ b → among L u ≡ false
      out false e = e
      out true e = absurd (path-once whole (λ i. o x i refl) (among_in L u (rw e tt)))

  pub ahead-short : {z : ℕ} {R : List ℕ} → Ahead N m x z R → length R ≤ N
  ahead-short {R = R} h = let e = count-path h.path h.other h.tags in omega (arith, count_low (among R) N)

  -- A measure of the way.
  pub away-next : (z : ℕ) (R : List ℕ) → Ahead N m x z R → z ≢ x → away m x N (m z) < away m x N z
  away-next z R h d =
      let k = ahead-next d h in
      let a = away-length N z R h (ahead-short h) in
      let b = away-length N (m z) k.rest k.ahead (ahead-short k.ahead) in
      let c : length R ≡ length (z ∷ k.rest) = ap length k.is in
      omega (arith, a, b)

-- A whole ring is ahead.
pub ahead-start : {N x : ℕ} {f m : ℕ → ℕ} → ((z : ℕ) → N ≤ z → f z ≡ z) → (r : Ring f m x) → Ahead N m x (m x) r.others
ahead-start {N} {x} {f} {m} own r = record { path = r.path; other = λ v i. (r.inside v i).1; tags = λ v i. below v i }
  where
    below : (v : ℕ) → Memᴰ v r.others → v < N
    below v i = elim (dec_lt v N) [ yes l ↦ l | no l ↦ absurd ((r.inside v i).1 (sym (own v (omega arith)) ∙ (r.inside v i).0)) ]

-- Each join makes one label fewer.
join-fewer : {N : ℕ} {f : ℕ → ℕ} {x y : ℕ} → Apart N f x y → classes f N ≡ suc (classes (λ z. into y x (f z)) N)
join-fewer {N} {f} {x} {y} a = count-less-one (λ z. eqb (f z) z) (λ z. eqb (into y x (f z)) z) x (eq-eqb (f x) x a.x-own) (rw (joined-x a x a.x-own) (ne_eqb y x (λ e. a.differ (sym e))))
    (λ z n. go z n (ℕ_discrete (f z) x)) N a.x-tag
  where
    go : (z : ℕ) → z ≢ x → Dec (f z ≡ x) → eqb (f z) z ≡ eqb (into y x (f z)) z
    go z n (no e) = rw (joined-else a z e)
    go z n (yes e) = ne_eqb (f z) z (λ q. n (sym q ∙ e)) ∙ sym (rw (joined-x a z e) (ne_eqb y z (λ q. a.differ (sym e ∙ ap f (sym q) ∙ a.y-own))))

pub built-count : {N : ℕ} {tr : ℕ → ℕ} {k : ℕ} {f m : ℕ → ℕ} → Built N tr k f m → k + classes f N ≡ classes (λ x. x) N
built-count {N} {k} (none p q r) = rw q (omega arith)
built-count {N} {k} (more y g a p q r) = rw q (omega (arith, built-count g, join-fewer a))

-- So where two labels are apart there is room for one more.
pub built-room : {N k x y : ℕ} {tr f m : ℕ → ℕ} → Built N tr k f m → Apart N f x y → k < N
built-room {N} {k} b a = omega (arith, built-count b, join-fewer a, count_low (λ z. eqb z z) N)
