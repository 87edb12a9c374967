-- The closure on paper labels two tags alike exactly where equality follows, and labels are compared, so following is decided; every other notion of the definitions is
-- put together from following by tests of numbers and lists. The decisions unfold, so that the check can compute the table of cases. Assumes nothing.
use Prim.Native.Nat.{ℕ, zero, suc, ◌≤◌, ◌<◌, ◌*◌, ◌-◌, max}
use native.Mathlib.Omega.{arith}
use native.Mathlib.Decide.{ℕ_discrete, dec_lt, dec_le}
use mathlib.Core.Path.{◌≡◌, refl, sym, ◌∙◌}
use mathlib.Core.Logic.Dec
use mathlib.Core.Logic.Iff
use mathlib.Core.Logic.{◌≢◌, ◌↔◌, inl, inr}
use mathlib.Core.Bool.{Bool, true, false, ◌&&◌, not}
use mathlib.Core.List.Memᴰ
use mathlib.Core.List.{List, [], cons≢nil, ◌∷◌, Memᴰ}
use lib.Dec.{T, leb, leb→le, le→leb, eqb, eqb→eq, T_not, not_T}
use borrow.Author.Tests.{eq-eqb}
use lib.ListN.{length, get_or}
use Rattle.meaning.specs.Following.{Rec, eq, app, At, Follows, Those, UpTo, Without, Least}
use Rattle.meaning.specs.Reasons.{Above, last_of, FirstAt, Reason}
use Rattle.meaning.specs.Labels.{Labels}
use Rattle.meaning.specs.Totals.{Count, none, one, skip, Classes, Idle, equation, application}
use Rattle.meaning.proofs.Close.{more_of}
use Rattle.meaning.proofs.Count.{count-one}
use Rattle.meaning.proofs.Leaders.{least-of}
use Rattle.meaning.proofs.Reference.{Small, Done, done, done-same, any_below}
use Rattle.meaning.proofs.Short.{among, among_in, in-among}

unfoldable pub dec_iff : {A B : Type 0} → A ↔ B → Dec A → Dec B
dec_iff e (yes a) = yes (e.0 a)
dec_iff e (no a) = no (λ b. a (e.1 b))

unfoldable pub dec_empty : (L : List ℕ) → Dec (L ≡ [])
dec_empty [] = yes refl
dec_empty (k ∷ L) = no (λ e. cons≢nil e)

-- A number above every tag of the records: the closure on paper needs one, whatever the job's N.
abbrev pub bound_of : Rec → ℕ
bound_of (eq a b) = suc (max a b)
bound_of (app a b c) = suc (max a (max b c))

abbrev pub bound : List Rec → ℕ
bound [] = 0
bound (r ∷ rs) = max (bound_of r) (bound rs)

small_of : (r : Rec) (N : ℕ) → bound_of r ≤ N → Small N r
small_of (eq a b) N h = omega arith
small_of (app a b c) N h = omega arith

pub small_all : (rs : List Rec) (N : ℕ) → bound rs ≤ N → (i : ℕ) → i < length rs → Small N (get_or rs i (eq 0 0))
small_all [] N l i h = absurd (omega arith)
small_all (r ∷ rs) N l zero h = small_of r N (omega arith)
small_all (r ∷ rs) N l (suc i) h = small_all rs N (omega arith) i (omega arith)

-- The closure of the chosen records, ..
unfoldable pub close : (rs : List Rec) (p : ℕ → Bool) → Done (bound rs) rs (small_all rs (bound rs) (omega arith)) p
unfolding done
close rs p = done (bound rs) rs (small_all rs (bound rs) (omega arith)) p

-- .. and its labels.
unfoldable pub label : (rs : List Rec) (p : ℕ → Bool) → ℕ → ℕ
unfolding close
label rs p = (close rs p).state.f

pub label-labels : (rs : List Rec) (p : ℕ → Bool) → Labels (label rs p)
unfolding label
label-labels rs p = (close rs p).state.labels

pub least-one : {S : Rec → Type 0} {s l l' : ℕ} → Least S s l → Least S s l' → l ≡ l'
least-one {l = l} {l' = l'} h h' = omega (arith, h.least l' h'.member, h'.least l h.member)

module _ (rs : List Rec) (p : ℕ → Bool) (P : ℕ → Type 0) (e : (k : ℕ) → P k ↔ T (p k)) where
  pub label_same : (s t : ℕ) → Follows (Those rs P) s t ↔ (label rs p s ≡ label rs p t)
  unfolding label close
  label_same s t =
      let h = done-same (bound rs) rs (small_all rs (bound rs) (omega arith)) p (close rs p) s t in
      (λ f. h.0 (more_of (λ k. (e k).0) f), λ q. more_of (λ k. (e k).1) (h.1 q))

  unfoldable pub dec_follows : (s t : ℕ) → Dec (Follows (Those rs P) s t)
  unfolding dec_iff label ℕ_discrete
  dec_follows s t = dec_iff (Iff.symm (label_same s t)) (ℕ_discrete (label rs p s) (label rs p t))

  pub label-least : (s : ℕ) → Least (Those rs P) s (label rs p s)
  label-least = least-of (label-labels rs p) label_same

  unfoldable pub dec_least : (s l : ℕ) → Dec (Least (Those rs P) s l)
  unfolding label ℕ_discrete
  dec_least s l = go (ℕ_discrete (label rs p s) l)
    where
      go : Dec (label rs p s ≡ l) → Dec (Least (Those rs P) s l)
      go (yes q) = yes (rw q at (label-least s))
      go (no q) = no (λ h. q (least-one (label-least s) h))

-- What is decided can be counted.
unfoldable pub count_it : (P : ℕ → Type 0) → ((x : ℕ) → Dec (P x)) → (N : ℕ) → (n : ℕ) × Count P N n
count_it P d zero = (0, none)
count_it P d (suc N) = go (d N) (count_it P d N)
  where
    go : Dec (P N) → (n : ℕ) × Count P N n → (n : ℕ) × Count P (suc N) n
    go (yes p) c = (suc c.0, one p c.1)
    go (no p) c = (c.0, skip p c.1)

unfoldable pub dec_count : (P : ℕ → Type 0) → ((x : ℕ) → Dec (P x)) → (N n : ℕ) → Dec (Count P N n)
unfolding count_it ℕ_discrete
dec_count P d N n = go (ℕ_discrete (count_it P d N).0 n)
  where
    go : Dec ((count_it P d N).0 ≡ n) → Dec (Count P N n)
    go (yes q) = yes (rw q at (count_it P d N).1)
    go (no q) = no (λ c. q (count-one (count_it P d N).1 c))

-- The three sets of records that the definitions name, as tests.
pub up_to-test : (k n : ℕ) → (n ≤ k) ↔ T (leb n k)
up_to-test k n = (le→leb n k, leb→le n k)

pub only-test : (L : List ℕ) (n : ℕ) → Memᴰ n L ↔ T (among L n)
only-test L n = (in-among L n, among_in L n)

abbrev pub besides : List ℕ → ℕ → ℕ → Bool
besides L m n = among L n && not (eqb n m)

and_both : (a b : Bool) → T a → T b → T (a && b)
and_both true b s t = t
and_both false b s t = s

and_split : (a b : Bool) → T (a && b) → T a × T b
and_split true b t = (tt, t)
and_split false b t = absurd t

pub without-test : (L : List ℕ) (m n : ℕ) → (Memᴰ n L × (n ≢ m)) ↔ T (besides L m n)
without-test L m n = (
  λ h. and_both (among L n) (not (eqb n m)) (in-among L n h.0) (not_T (eqb n m) (λ t. h.1 (eqb→eq n m t))),
  λ t. (among_in L n (and_split (among L n) (not (eqb n m)) t).0, λ q. T_not (eqb n m) (and_split (among L n) (not (eqb n m)) t).1 (rw (eq-eqb n m q) tt)),
)

-- Decisions put together.
unfoldable pub dec_imp : {A B : Type 0} → Dec A → Dec B → Dec (A → B)
dec_imp a (yes b) = yes (λ x. b)
dec_imp (yes a) (no b) = no (λ f. b (f a))
dec_imp (no a) (no b) = yes (λ x. absurd (a x))

unfoldable pub dec_all : (Q : ℕ → Type 0) → ((k : ℕ) → Dec (Q k)) → (L : List ℕ) → Dec ((k : ℕ) → Memᴰ k L → Q k)
dec_all Q d [] = yes (λ k i. absurd (Memᴰ.not-nil i))
dec_all Q d (x ∷ L) = go (d x) (dec_all Q d L)
  where
    go : Dec (Q x) → Dec ((k : ℕ) → Memᴰ k L → Q k) → Dec ((k : ℕ) → Memᴰ k (x ∷ L) → Q k)
    go (yes q) (yes r) = yes (λ k i. elim (Memᴰ.cases_cons i) [ inl e ↦ rw e q | inr j ↦ r k j ])
    go (yes q) (no r) = no (λ h. r (λ k i. h k (Memᴰ.tail i)))
    go (no q) r = no (λ h. q (h x (Memᴰ.head refl)))

unfoldable pub dec_below : (Q : ℕ → Type 0) → ((k : ℕ) → Dec (Q k)) → (n : ℕ) → Dec ((k : ℕ) → k < n → Q k → ⊥)
unfolding any_below
dec_below Q d n = go (any_below Q d n)
  where
    go : Dec ((i : ℕ) × (i < n) × Q i) → Dec ((k : ℕ) → k < n → Q k → ⊥)
    go (yes h) = no (λ f. f h.0 h.1 h.2)
    go (no h) = yes (λ k l q. h (k, l, q))

unfoldable pub dec_above : (m : ℕ) (L : List ℕ) → Dec (Above m L)
unfolding Dec.and dec_lt
dec_above m [] = yes tt
dec_above m (k ∷ L) = Dec.and (dec_lt m k) (dec_above k L)

unfoldable pub dec_up_to : (rs : List Rec) (k s t : ℕ) → Dec (Follows (UpTo rs k) s t)
unfolding dec_follows
dec_up_to rs k = dec_follows rs (λ n. leb n k) (λ n. n ≤ k) (up_to-test k)

unfoldable pub dec_first_at : (rs : List Rec) (s t k : ℕ) → Dec (FirstAt rs s t k)
unfolding dec_iff Dec.and dec_up_to dec_below
dec_first_at rs s t k = dec_iff (λ h. record { then = h.0; before = h.1 }, λ h. (h.then, h.before))
    (Dec.and (dec_up_to rs k s t) (dec_below (λ n. Follows (UpTo rs n) s t) (λ n. dec_up_to rs n s t) k))

-- There is one number of classes, so the bound is tested for that one.
unfoldable pub count_classes : (N : ℕ) (rs : List Rec) (k : ℕ) → (n : ℕ) × Classes N (UpTo rs k) n
unfolding count_it dec_least
count_classes N rs k = count_it (λ x. Least (UpTo rs k) x x) (λ x. dec_least rs (λ n. leb n k) (λ n. n ≤ k) (up_to-test k) x x) N

unfoldable pub dec_short : (N : ℕ) (rs : List Rec) (R : ℕ) (L : List ℕ) → Dec ((C : ℕ) → Classes N (UpTo rs R) C → length L ≤ 2 * (N - C))
unfolding dec_iff dec_le count_classes
dec_short N rs R L = go (count_classes N rs R)
  where
    go : (n : ℕ) × Classes N (UpTo rs R) n → Dec ((C : ℕ) → Classes N (UpTo rs R) C → length L ≤ 2 * (N - C))
    go c = dec_iff (λ l C d. rw (count-one d c.1) l, λ h. h c.0 c.1) (dec_le (length L) (2 * (N - c.0)))

unfoldable pub dec_reason : (N : ℕ) (rs : List Rec) (R s t : ℕ) (L : List ℕ) → Dec (Reason N rs R s t L)
unfolding dec_iff Dec.and dec_above dec_all dec_le dec_follows dec_imp ℕ_discrete dec_empty Dec.not dec_first_at dec_short
dec_reason N rs R s t L = dec_iff (
  λ h. record { rising = h.0; stand = h.1.0; entails = h.1.1.0; empty = h.1.1.1.0; last = h.1.1.1.1.0; unspared = h.1.1.1.1.1.0; short = h.1.1.1.1.1.1 },
  λ h. (h.rising, (h.stand, (h.entails, (h.empty, (h.last, (h.unspared, h.short)))))),
)
    (Dec.and (dec_above 0 L)
    (Dec.and (dec_all (λ k. k ≤ R) (λ k. dec_le k R) L)
    (Dec.and (dec_follows rs (among L) (λ n. Memᴰ n L) (only-test L) s t)
    (Dec.and (dec_imp (ℕ_discrete s t) (dec_empty L))
    (Dec.and (dec_imp (Dec.not (ℕ_discrete s t)) (dec_first_at rs s t (last_of 0 L)))
    (Dec.and (dec_all (λ m. Follows (Without rs L m) s t → ⊥) (λ m. Dec.not (dec_follows rs (besides L m) (λ n. Memᴰ n L × (n ≢ m)) (without-test L m) s t)) L)
    (dec_short N rs R L)))))))

unfoldable pub dec_classes : (N : ℕ) (rs : List Rec) (k n : ℕ) → Dec (Classes N (UpTo rs k) n)
unfolding dec_count dec_least
dec_classes N rs k n = dec_count (λ x. Least (UpTo rs k) x x) (λ x. dec_least rs (λ n. leb n k) (λ n. n ≤ k) (up_to-test k) x x) N n

-- A number stands for one record.
pub at_one : {rs : List Rec} {k k' : ℕ} {r r' : Rec} → k ≡ k' → At rs k r → At rs k' r' → r ≡ r'
at_one e i j = let q : i.place ≡ j.place = omega (arith, i.number, j.number) in sym i.is ∙ rw q j.is

-- An equation is no application.
pub eq-app : {a b x y z : ℕ} → eq a b ≡ app x y z → ⊥
eq-app e = let z : ◌≡◌ {A = ℕ} 0 1 = cc e in omega (arith, z)

-- Being idle, by the record that has the number: an equation, ..
pub idle-eq : {rs : List Rec} {k a b : ℕ} → At rs (suc k) (eq a b) → Idle rs k ↔ Follows (UpTo rs k) a b
idle-eq {rs} {k} {a} {b} i = (go, equation i)
  where
    go : Idle rs k → Follows (UpTo rs k) a b
    go (equation {a = x} {b = y} j f) = let z = at_one refl i j in let p : a ≡ x = cc z in let q : b ≡ y = cc z in rw (p, q) f
    go (application j u f g h) = absurd (eq-app (at_one refl i j))

-- .. or an application: one of the records before it stands in for it, with all three tags equal by them.
pub record StandIn (S : Rec → Type 0) (a b c : ℕ) : Type 0 where
  pub first : ℕ
  pub second : ℕ
  pub result : ℕ
  pub there : S (app first second result)
  pub firsts : Follows S a first
  pub seconds : Follows S b second
  pub results : Follows S c result

pub idle-app : {rs : List Rec} {k a b c : ℕ} → At rs (suc k) (app a b c) → Idle rs k ↔ StandIn (UpTo rs k) a b c
idle-app {rs} {k} {a} {b} {c} i = (go, λ h. application i h.there h.firsts h.seconds h.results)
  where
    go : Idle rs k → StandIn (UpTo rs k) a b c
    go (equation j f) = absurd (eq-app (at_one refl j i))
    go (application {a = x} {b = y} {c = z} {a' = x'} {b' = y'} {c' = z'} j u f g h) =
        let e = at_one refl i j in
        let p : a ≡ x = cc e in
        let q : b ≡ y = cc e in
        let r : c ≡ z = cc e in
        record { first = x'; second = y'; result = z'; there = u; firsts = rw p f; seconds = rw q g; results = rw r h }

-- It is decided.
abbrev pub Twin : List Rec → ℕ → ℕ → ℕ → ℕ → Rec → Type 0
Twin rs k a b c (eq a' b') = ⊥
Twin rs k a b c (app a' b' c') = Follows (UpTo rs k) a a' × (Follows (UpTo rs k) b b' × Follows (UpTo rs k) c c')

unfoldable pub dec_twin : (rs : List Rec) (k a b c : ℕ) (r : Rec) → Dec (Twin rs k a b c r)
unfolding Dec.and dec_up_to
dec_twin rs k a b c (eq a' b') = no (λ x. x)
dec_twin rs k a b c (app a' b' c') = Dec.and (dec_up_to rs k a a') (Dec.and (dec_up_to rs k b b') (dec_up_to rs k c c'))

unfoldable pub dec_idle : (rs : List Rec) (k : ℕ) → Dec (Idle rs k)
unfolding dec_twin any_below dec_iff dec_up_to dec_lt
dec_idle rs k = inside (dec_lt k (length rs))
  where
    here : (r : Rec) → get_or rs k (eq 0 0) ≡ r → k < length rs → At rs (suc k) r
    here r e l = record { place = k; number = refl; stands = l; is = e }

    found : (a b c : ℕ) → k < length rs → (i : ℕ) × (i < k) × Twin rs k a b c (get_or rs i (eq 0 0)) → StandIn (UpTo rs k) a b c
    found a b c l h = go (get_or rs h.0 (eq 0 0)) refl h.2
      where
        go : (r : Rec) → get_or rs h.0 (eq 0 0) ≡ r → Twin rs k a b c r → StandIn (UpTo rs k) a b c
        go (eq x y) e t = absurd t
        go (app x y z) e t = record {
          first = x;
          second = y;
          result = z;
          there = (suc h.0, omega (arith, h.1), record { place = h.0; number = refl; stands = omega (arith, h.1); is = e });
          firsts = t.0;
          seconds = t.1.0;
          results = t.1.1;
        }

    finds : (a b c : ℕ) → StandIn (UpTo rs k) a b c → (i : ℕ) × (i < k) × Twin rs k a b c (get_or rs i (eq 0 0))
    finds a b c h = let i = h.there.2 in (i.place, omega (arith, i.number, h.there.1), rw i.is (h.firsts, (h.seconds, h.results)))

    by_kind : (r : Rec) → get_or rs k (eq 0 0) ≡ r → k < length rs → Dec (Idle rs k)
    by_kind (eq a b) e l = let h = idle-eq (here (eq a b) e l) in dec_iff (h.1, h.0) (dec_up_to rs k a b)
    by_kind (app a b c) e l =
        let h = idle-app (here (app a b c) e l) in
        dec_iff (λ t. h.1 (found a b c l t), λ i. finds a b c (h.0 i)) (any_below (λ i. Twin rs k a b c (get_or rs i (eq 0 0))) (λ i. dec_twin rs k a b c (get_or rs i (eq 0 0))) k)

    past : {A : Type 0} → (k < length rs → ⊥) → Idle rs k → A
    past l (equation i f) = absurd (l (omega (arith, i.stands, i.number)))
    past l (application i u f g h) = absurd (l (omega (arith, i.stands, i.number)))

    inside : Dec (k < length rs) → Dec (Idle rs k)
    inside (yes l) = by_kind (get_or rs k (eq 0 0)) refl l
    inside (no l) = no (past l)
