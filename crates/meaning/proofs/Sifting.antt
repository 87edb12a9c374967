-- An idle record adds nothing: an equation's tags are equal without it, and an application has an earlier one that stands for it. So every record has one that is not idle
-- to stand for it, and what follows from all records follows from those that are not idle. Assumes nothing.
use Prim.Native.Nat.{ℕ, zero, suc, ◌≤◌, ◌<◌}
use native.Mathlib.Omega.{arith}
use native.Mathlib.Decide.{ℕ_discrete, dec_lt}
use mathlib.Core.Path.{◌≡◌, refl, sym, ap, ◌∙◌}
use mathlib.Core.Logic.{◌↔◌}
use mathlib.Core.List.{List, [], ◌∷◌, ◌++◌}
use lib.ListN.{length, get_or, length-append}
use lib.Seq.{get_or-append_seam}
use Rattle.meaning.specs.Following.{Rec, eq, app, At, Follows, same, flip, chain, given, congruent, Those, UpTo, Least, Leader, unit, no-unit}
use Rattle.meaning.specs.Totals.{Count, none, one, skip, Classes, Idle}
use Rattle.meaning.specs.Sifting.{Busy, Sifted, start, left_out, stays}
use Rattle.meaning.proofs.Close.{more, more_of, follows-least}
use Rattle.meaning.proofs.Decide.{StandIn, idle-eq, idle-app, dec_idle}
use Rattle.meaning.proofs.Exact.{at_front, front_at}

-- Of the first k records, those that are not idle.
abbrev pub Left : List Rec → ℕ → Rec → Type 0
Left rs k = Those rs (λ n. (n ≤ k) × Busy rs n)

left-more : {rs : List Rec} {k : ℕ} {s t : ℕ} → Follows (Left rs k) s t → Follows (Left rs (suc k)) s t
left-more = more_of (λ n h. (omega (arith, h.0), h.1))

-- What is known of the first k records: those that are not idle make the same tags equal, and each application has one among them that stands for it.
record Spared (rs : List Rec) (k : ℕ) : Type 0 where
  follows : {s t : ℕ} → Follows (UpTo rs k) s t → Follows (Left rs k) s t
  standing : (a b c : ℕ) → UpTo rs k (app a b c) → StandIn (Left rs k) a b c

stands-more : {rs : List Rec} {k a b c : ℕ} → StandIn (Left rs k) a b c → StandIn (Left rs (suc k)) a b c
stands-more h = let i = h.there in record {
  first = h.first;
  second = h.second;
  result = h.result;
  there = (i.0, (omega (arith, i.1.0), i.1.1), i.2);
  firsts = left-more h.firsts;
  seconds = left-more h.seconds;
  results = left-more h.results;
}

-- From applications that are stood for, and equations that hold, following comes.
spared-by : (rs : List Rec) (k : ℕ) → ((a b : ℕ) → UpTo rs k (eq a b) → Follows (Left rs k) a b) → ((a b c : ℕ) → UpTo rs k (app a b c) → StandIn (Left rs k) a b c) → Spared rs k
spared-by rs k equal stood = record {
  follows = follows-least {R = Follows (Left rs k)} (record {
    reflexive = same;
    symmetric = flip;
    transitive = chain;
    equations = λ i. equal _ _ i;
    applications = λ i j f g. let h = stood _ _ _ i in let h' = stood _ _ _ j in
        chain h.results (chain (congruent h.there h'.there (chain (flip h.firsts) (chain f h'.firsts)) (chain (flip h.seconds) (chain g h'.seconds))) (flip h'.results));
  });
  standing = stood;
}

-- One record more.
module _ {rs : List Rec} {k : ℕ} (before : Spared rs k) where
  -- The new record is not idle: it is among those that are left.
  among : {r : Rec} → (i : UpTo rs (suc k) r) → i.0 ≡ suc k → (Idle rs k → ⊥) → Left rs (suc k) r
  among i e d = (i.0, (omega (arith, e), λ j q h. let z : j ≡ k = omega (arith, q, e) in d (rw z at h)), i.2)

  new : {r : Rec} → (i : UpTo rs (suc k) r) → i.0 ≡ suc k → At rs (suc k) r
  new i e = rw (← e) i.2

  equal-new : (a b : ℕ) (i : UpTo rs (suc k) (eq a b)) → i.0 ≡ suc k → Dec (Idle rs k) → Follows (Left rs (suc k)) a b
  equal-new a b i e (yes d) = left-more (before.follows ((idle-eq (new i e)).0 d))
  equal-new a b i e (no d) = given (among i e d)

  equal : (a b : ℕ) (i : UpTo rs (suc k) (eq a b)) → Dec (i.0 ≡ suc k) → Follows (Left rs (suc k)) a b
  equal a b i (yes e) = equal-new a b i e (dec_idle rs k)
  equal a b i (no e) = left-more (before.follows (given (i.0, omega (arith, i.1), i.2)))

  through : (a b c : ℕ) (h : StandIn (UpTo rs k) a b c) → StandIn (Left rs k) h.first h.second h.result → StandIn (Left rs k) a b c
  through a b c h g = record {
    first = g.first;
    second = g.second;
    result = g.result;
    there = g.there;
    firsts = chain (before.follows h.firsts) g.firsts;
    seconds = chain (before.follows h.seconds) g.seconds;
    results = chain (before.follows h.results) g.results;
  }

  stood-new : (a b c : ℕ) (i : UpTo rs (suc k) (app a b c)) → i.0 ≡ suc k → Dec (Idle rs k) → StandIn (Left rs (suc k)) a b c
  stood-new a b c i e (yes d) = let h = (idle-app (new i e)).0 d in stands-more (through a b c h (before.standing h.first h.second h.result h.there))
  stood-new a b c i e (no d) = record { first = a; second = b; result = c; there = among i e d; firsts = same; seconds = same; results = same }

  stood : (a b c : ℕ) (i : UpTo rs (suc k) (app a b c)) → Dec (i.0 ≡ suc k) → StandIn (Left rs (suc k)) a b c
  stood a b c i (yes e) = stood-new a b c i e (dec_idle rs k)
  stood a b c i (no e) = stands-more (before.standing a b c (i.0, omega (arith, i.1), i.2))

  next : Spared rs (suc k)
  next = spared-by rs (suc k) (λ a b i. equal a b i (ℕ_discrete i.0 (suc k))) (λ a b c i. stood a b c i (ℕ_discrete i.0 (suc k)))

spared : (rs : List Rec) (k : ℕ) → Spared rs k
spared rs zero = spared-by rs zero (λ a b i. absurd (omega (arith, i.1, i.2.number))) (λ a b c i. absurd (omega (arith, i.1, i.2.number)))
spared rs (suc k) = next (spared rs k)

-- Leaving out all idle records changes no class, at the end and at every question before it.
pub idle-spared : (rs : List Rec) (k s t : ℕ) → Follows (UpTo rs k) s t ↔ Follows (Left rs k) s t
idle-spared rs k s t = ((spared rs k).follows, more_of (λ n h. h.0))

pub idle-spared-all : (rs : List Rec) (s t : ℕ) → Follows (UpTo rs (length rs)) s t ↔ Follows (Those rs (Busy rs)) s t
idle-spared-all rs s t = (
  λ f. more_of (λ n h. h.1) ((spared rs (length rs)).follows f),
  λ f. more (λ r i. (i.0, omega (arith, i.2.number, i.2.stands), i.2)) f,
)

-- The same of the job with the idle records left out: it has the records that are left, and no others.
left-later : {rs : List Rec} {k : ℕ} {r : Rec} → Left rs k r → Left rs (suc k) r
left-later j = (j.0, (omega (arith, j.1.0), j.1.1), j.2)

sifted-there : {rs qs : List Rec} {k : ℕ} → k ≤ length rs → Sifted rs k qs → (r : Rec) → UpTo qs (length qs) r → Left rs k r
sifted-there l start r i = absurd (omega (arith, i.2.stands))
sifted-there l (left_out d h) r i = left-later (sifted-there (omega arith) h r i)
sifted-there {rs} {k = suc k} l (stays {qs = qs} d h) r i = go (dec_lt i.2.place (length qs)) (λ j. sifted-there (omega arith) h r j)
  where
    x : Rec
    x = get_or rs k (eq 0 0)

    go : Dec (i.2.place < length qs) → (UpTo qs (length qs) r → Left rs k r) → Left rs (suc k) r
    go (yes m) f = left-later (f (i.0, omega (arith, i.2.number), front_at qs (x ∷ []) (omega (arith, i.2.number)) i.2))
    go (no m) f =
        let n : i.2.place ≡ length qs = omega (arith, i.2.stands, length-append qs (x ∷ [])) in
        let e : get_or (qs ++ (x ∷ [])) (length qs) (eq 0 0) ≡ r = rw n at i.2.is in
        (suc k, (omega arith, λ j q g. let z : j ≡ k = omega (arith, q) in d (rw z at g)), record { place = k; number = refl; stands = omega arith; is = sym (get_or-append_seam qs x [] (eq 0 0)) ∙ e })

there-sifted : {rs qs : List Rec} {k : ℕ} → Sifted rs k qs → (r : Rec) → Left rs k r → UpTo qs (length qs) r
there-sifted start r i = absurd (omega (arith, i.1.0, i.2.number))
there-sifted {rs} {k = suc k} (left_out d h) r i = go (ℕ_discrete i.0 (suc k)) (λ j. there-sifted h r j)
  where
    go : {A : Type 0} → Dec (i.0 ≡ suc k) → (Left rs k r → A) → A
    go (yes e) f = absurd (i.1.1 k e d)
    go (no e) f = f (i.0, (omega (arith, i.1.0), i.1.1), i.2)
there-sifted {rs} {k = suc k} (stays {qs = qs} d h) r i = go (ℕ_discrete i.0 (suc k)) (λ j. there-sifted h r j)
  where
    x : Rec
    x = get_or rs k (eq 0 0)

    go : Dec (i.0 ≡ suc k) → (Left rs k r → UpTo qs (length qs) r) → UpTo (qs ++ (x ∷ [])) (length (qs ++ (x ∷ []))) r
    go (yes e) f =
        let n : i.2.place ≡ k = omega (arith, e, i.2.number) in
        let q : x ≡ r = rw n at i.2.is in
        (suc (length qs), omega (arith, length-append qs (x ∷ [])), record { place = length qs; number = refl; stands = omega (arith, length-append qs (x ∷ [])); is = get_or-append_seam qs x [] (eq 0 0) ∙ q })
    go (no e) f =
        let j = f (i.0, (omega (arith, i.1.0), i.1.1), i.2) in
        (j.0, omega (arith, j.1, length-append qs (x ∷ [])), at_front qs (x ∷ []) j.2)

-- So it has the same classes, with the same leaders, and as many of them.
pub sifted-follows : {rs qs : List Rec} → Sifted rs (length rs) qs → (s t : ℕ) → Follows (UpTo rs (length rs)) s t ↔ Follows (UpTo qs (length qs)) s t
sifted-follows {rs} h s t = (
  λ f. more (there-sifted h) ((idle-spared rs (length rs) s t).0 f),
  λ f. (idle-spared rs (length rs) s t).1 (more (sifted-there (omega arith) h) f),
)

same-least : {S S' : Rec → Type 0} → ((s t : ℕ) → Follows S s t ↔ Follows S' s t) → {s l : ℕ} → Least S s l → Least S' s l
same-least e {s} {l} h = record { member = (e s l).0 h.member; least = λ x f. h.least x ((e s x).1 f) }

same-leader : {U : ℕ} {S S' : Rec → Type 0} → ((s t : ℕ) → Follows S s t ↔ Follows S' s t) → {s l : ℕ} → Leader U S s l → Leader U S' s l
same-leader e {s} {l} (unit u c h) = unit u ((e s l).0 c) (λ x v f. h x v ((e s x).1 f))
same-leader e {s} {l} (no-unit n h) = no-unit (λ x v f. n x v ((e s x).1 f)) (same-least e h)

same_count : {P Q : ℕ → Type 0} → ((x : ℕ) → P x ↔ Q x) → {N n : ℕ} → Count P N n → Count Q N n
same_count e none = none
same_count e (one {N = N} p c) = one ((e N).0 p) (same_count e c)
same_count e (skip {N = N} p c) = skip (λ q. p ((e N).1 q)) (same_count e c)

pub sifted-leader : {U : ℕ} {rs qs : List Rec} → Sifted rs (length rs) qs → {s l : ℕ} → Leader U (UpTo rs (length rs)) s l → Leader U (UpTo qs (length qs)) s l
sifted-leader h = same-leader (sifted-follows h)

pub sifted-classes : {rs qs : List Rec} → Sifted rs (length rs) qs → {N n : ℕ} → Classes N (UpTo rs (length rs)) n → Classes N (UpTo qs (length qs)) n
sifted-classes h = same_count (λ x. (same-least (sifted-follows h), same-least (λ s t. let e = sifted-follows h s t in (e.1, e.0))))

-- There is such a job, and it is one.
pub sifted-some : (rs : List Rec) (k : ℕ) → (qs : List Rec) × Sifted rs k qs
sifted-some rs zero = ([], start)
sifted-some rs (suc k) = go (dec_idle rs k) (sifted-some rs k)
  where
    go : Dec (Idle rs k) → (qs : List Rec) × Sifted rs k qs → (qs : List Rec) × Sifted rs (suc k) qs
    go (yes d) r = (r.0, left_out d r.1)
    go (no d) r = (r.0 ++ (get_or rs k (eq 0 0) ∷ []), stays d r.1)

pub sifted-one : {rs qs qs' : List Rec} {k : ℕ} → Sifted rs k qs → Sifted rs k qs' → qs ≡ qs'
sifted-one start start = refl
sifted-one (left_out d h) (left_out d' h') = sifted-one h h'
sifted-one (left_out d h) (stays d' h') = absurd (d' d)
sifted-one (stays d h) (left_out d' h') = absurd (d d')
sifted-one {rs} (stays {k = k} d h) (stays d' h') = ap (λ (l : List Rec). l ++ (get_or rs k (eq 0 0) ∷ [])) (sifted-one h h')
