-- Every report is sound or has a place at fault: the bytes at the front are those of one field or of none, and whether that field is
-- right is decided, since following, leaders, reasons and totals are.
-- Assumes nothing.
use Prim.Native.Nat.{ℕ, ◌+◌, ◌*◌, ◌/◌, ◌%◌, ◌≤◌, ◌<◌}
use native.Mathlib.Omega.{arith}
use native.Mathlib.Decide.{ℕ_discrete, dec_lt, dec_le}
use mathlib.Core.Path.{◌≡◌, refl, sym, ◌∙◌, ap}
use mathlib.Core.Logic.{◌⊎◌, inl, inr}
use mathlib.Core.Bool.{Bool, true, false}
use mathlib.Core.List.Memᴰ
use mathlib.Core.List.{List, [], ◌∷◌, ◌++◌, append-nil, append_assoc, Memᴰ}
use lib.Dec.{leb}
use lib.ListN.{length, take, drop, length-append, take-append-drop}
use lib.Seq.{take-append_seam, length-take-le}
use Rattle.meaning.specs.Following.{Rec, UpTo, Least, Leader, Follows}
use Rattle.meaning.specs.Looks.{Led}
use Rattle.meaning.specs.Reasons.{Above, Reason}
use Rattle.meaning.specs.Totals.{Classes, Idle, Idles}
use Rattle.meaning.proofs.Decide.{up_to-test, dec_up_to, dec_least, dec_idle, count_it, dec_imp, dec_all, dec_above}
use Rattle.meaning.proofs.Laws.{reason-decided}
use Rattle.meaning.proofs.Looks.{led-there}
use Rattle.meaning.proofs.Units.{leader-there}
use Rattle.job_field.specs.Items.{Matter, Moment, after, Question, ask, explain, broken, why, Item, noted, posed}
use Rattle.report.specs.Sheets.{sheet_no, Sheets}
use Rattle.report.specs.Report.{two, numbers, front, field, Reasoned, because, breached, Filed, unfiled, filed, Answers, led, reasoned, apart, intact, parted, joined, Totalled, total, Sound, totals, passed, answered}
use Rattle.report.specs.Broken.{pair_no, Earliest, Unbroken, PairReason}
use Rattle.report.proofs.Broken.{earliest-or, earliest-some}
use Rattle.report.specs.Fault.{Stands, stands, FaultAt, past, behind, wrong, astray, closing, spare}
use Rattle.report.proofs.Bytes.{two-of, length-numbers, numbers-one, field-one}
use Rattle.report.proofs.Fault.{stands-in}
use Rattle.report.proofs.Known.{no-reason}
use Rattle.report_read.proofs.Right.{Begins, ask-right, apart-right, reason-right, follows-right, intact-right, broken-right, breach-right, parted-right, joined-right, totals-right}

-- Whether the bytes begin with given ones.
begins-decided : (f bs : List ℕ) → Dec (Begins bs f)
begins-decided [] bs = yes (bs, refl)
begins-decided (x ∷ f) [] = no (λ b. let e : [] ≡ x ∷ (f ++ b.0) = b.1 in let z : ◌≡◌ {A = ℕ} 0 1 = cc in omega arith)
begins-decided (x ∷ f) (y ∷ bs) = go (ℕ_discrete y x) (begins-decided f bs)
  where
    go : Dec (y ≡ x) → Dec (Begins bs f) → Dec (Begins (y ∷ bs) (x ∷ f))
    go (yes p) (yes r) = yes (r.0, let q : bs ≡ f ++ r.0 = r.1 in cc)
    go (yes p) (no r) = no (λ b. r (b.0, let e : y ∷ bs ≡ x ∷ (f ++ b.0) = b.1 in cc))
    go (no p) r = no (λ b. p (let e : y ∷ bs ≡ x ∷ (f ++ b.0) = b.1 in cc))

-- Whether a body is numbers.
two-numbers : (x y : ℕ) (body L : List ℕ) → x ∷ y ∷ body ≡ numbers L → (y < 256) × ((M : List ℕ) × (body ≡ numbers M))
unfolding numbers two
two-numbers x y body [] e = let z : ◌≡◌ {A = ℕ} 0 1 = cc in absurd (omega arith)
two-numbers x y body (n ∷ L) e =
    let lo : y ≡ n % 256 = cc in
    (omega arith, (L, cc))

numbers-decided : (body : List ℕ) → Dec ((L : List ℕ) × (body ≡ numbers L))
unfolding numbers two
numbers-decided [] = yes ([], refl)
numbers-decided (x ∷ []) = no (λ h. omega (arith, ap length h.1, length-numbers h.0))
numbers-decided (x ∷ y ∷ body) = go (dec_lt y 256) (numbers-decided body)
  where
    go : Dec (y < 256) → Dec ((L : List ℕ) × (body ≡ numbers L)) → Dec ((L : List ℕ) × (x ∷ y ∷ body ≡ numbers L))
    go (yes l) (yes r) = yes ((x * 256 + y) ∷ r.0, let e : two (x * 256 + y) ≡ x ∷ y ∷ [] = two-of x y l in let q : body ≡ numbers r.0 = r.1 in cc)
    go (yes l) (no r) = no (λ h. r (two-numbers x y body h.0 h.1).1)
    go (no l) r = no (λ h. l (two-numbers x y body h.0 h.1).0)

-- Whether the bytes begin with a list of numbers as a field of a kind.
record Cutting (k x hi lo : ℕ) (rest body more : List ℕ) : Type 0 where
  kind : x ≡ k
  low : lo < 256
  size : hi * 256 + lo ≡ length body
  left : rest ≡ body ++ more

cutting : (k x hi lo : ℕ) (rest body more : List ℕ) → x ∷ hi ∷ lo ∷ rest ≡ field k body ++ more → Cutting k x hi lo rest body more
unfolding field front two
cutting k x hi lo rest body more e =
    let a : x ≡ k = cc in
    let h : hi ≡ length body / 256 = cc in
    let l : lo ≡ length body % 256 = cc in
    record { kind = a; low = omega arith; size = omega arith; left = cc }

three : (k : ℕ) (bs body more : List ℕ) → length bs < 3 → bs ≡ field k body ++ more → ⊥
unfolding field front two
three k bs body more l e = omega (arith, ap length e)

uncut : (k hi lo : ℕ) (rest L : List ℕ) → lo < 256 → hi * 256 + lo ≤ length rest → take (hi * 256 + lo) rest ≡ numbers L → k ∷ hi ∷ lo ∷ rest ≡ field k (numbers L) ++ drop (hi * 256 + lo) rest
unfolding field front
uncut k hi lo rest L l m e =
    let n : length (numbers L) ≡ hi * 256 + lo = sym (ap length e) ∙ length-take-le (hi * 256 + lo) rest m in
    rw (n, two-of hi lo l, ← e, take-append-drop (hi * 256 + lo) rest)

list-decided : (k : ℕ) (bs : List ℕ) → Dec ((L : List ℕ) × Begins bs (field k (numbers L)))
list-decided k [] = no (λ h. three k [] (numbers h.0) h.1.0 (omega arith) h.1.1)
list-decided k (x ∷ []) = no (λ h. three k (x ∷ []) (numbers h.0) h.1.0 (omega arith) h.1.1)
list-decided k (x ∷ hi ∷ []) = no (λ h. three k (x ∷ hi ∷ []) (numbers h.0) h.1.0 (omega arith) h.1.1)
list-decided k (x ∷ hi ∷ lo ∷ rest) = go (ℕ_discrete x k) (dec_lt lo 256) (dec_le (hi * 256 + lo) (length rest)) (numbers-decided (take (hi * 256 + lo) rest))
  where
    cut : (h : (L : List ℕ) × Begins (x ∷ hi ∷ lo ∷ rest) (field k (numbers L))) → Cutting k x hi lo rest (numbers h.0) h.1.0
    cut h = cutting k x hi lo rest (numbers h.0) h.1.0 h.1.1

    go : Dec (x ≡ k) → Dec (lo < 256) → Dec (hi * 256 + lo ≤ length rest) → Dec ((L : List ℕ) × (take (hi * 256 + lo) rest ≡ numbers L)) → Dec ((L : List ℕ) × Begins (x ∷ hi ∷ lo ∷ rest) (field k (numbers L)))
    go (no p) l m r = no (λ h. p (cut h).kind)
    go (yes p) (no l) m r = no (λ h. l (cut h).low)
    go (yes p) (yes l) (no m) r = no (λ h. m (let c = cut h in omega (arith, ap length c.left, length-append (numbers h.0) h.1.0)))
    go (yes p) (yes l) (yes m) (no r) = no (λ h. r (h.0, let c = cut h in rw (c.size, c.left) (take-append_seam (numbers h.0) h.1.0)))
    go (yes p) (yes l) (yes m) (yes r) = yes (r.0, (drop (hi * 256 + lo) rest, rw p (uncut k hi lo rest r.0 l m r.1)))

-- Whether numbers are the sheets of a list.
mem-decided : (x : ℕ) (l : List ℕ) → Dec (Memᴰ x l)
mem-decided x [] = no (λ i. Memᴰ.not-nil i)
mem-decided x (y ∷ l) = go (ℕ_discrete x y) (mem-decided x l)
  where
    go : Dec (x ≡ y) → Dec (Memᴰ x l) → Dec (Memᴰ x (y ∷ l))
    go (yes e) d = yes (Memᴰ.head e)
    go (no n) (yes i) = yes (Memᴰ.tail i)
    go (no n) (no m) = no (λ i. elim (Memᴰ.cases_cons i) [ inl e ↦ n e | inr j ↦ m j ])

abbrev Of : List ℕ → List ℕ → ℕ → Type 0
Of all L h = (k : ℕ) × Memᴰ k L × (sheet_no all k ≡ h)

of-decided : (all L : List ℕ) (h : ℕ) → Dec (Of all L h)
of-decided all [] h = no (λ r. Memᴰ.not-nil r.1)
of-decided all (k ∷ L) h = go (ℕ_discrete (sheet_no all k) h) (of-decided all L h)
  where
    go : Dec (sheet_no all k ≡ h) → Dec (Of all L h) → Dec (Of all (k ∷ L) h)
    go (yes e) d = yes (k, Memᴰ.head refl, e)
    go (no n) (yes r) = yes (r.0, Memᴰ.tail r.1, r.2)
    go (no n) (no m) = no (λ r. elim (Memᴰ.cases_cons r.1) [ inl e ↦ n (rw e at r.2) | inr j ↦ m (r.0, j, r.2) ])

sheets-decided : (all L hs : List ℕ) → Dec (Sheets all L hs)
sheets-decided all L hs =
    go (dec_above 0 hs) (dec_all (Of all L) (of-decided all L) hs) (dec_all (λ k. 0 < sheet_no all k → Memᴰ (sheet_no all k) hs) (λ k. dec_imp (dec_lt 0 (sheet_no all k)) (mem-decided (sheet_no all k) hs)) L)
  where
    go : Dec (Above 0 hs) → Dec ((h : ℕ) → Memᴰ h hs → Of all L h) → Dec ((k : ℕ) → Memᴰ k L → 0 < sheet_no all k → Memᴰ (sheet_no all k) hs) → Dec (Sheets all L hs)
    go (yes a) (yes e) (yes v) = yes (record { rising = a; each = e; every = v })
    go (no a) e v = no (λ s. a s.rising)
    go (yes a) (no e) v = no (λ s. e s.each)
    go (yes a) (yes e) (no v) = no (λ s. v s.every)

-- Whether a right field stands at the front of the bytes.
module _ (M : Matter) where
  abbrev N : ℕ
  N = M.head.size

  abbrev rs : List Rec
  rs = M.records

  ask-decided : (b : Moment) (s t : ℕ) (bs : List ℕ) → Dec (Stands (Answers M b (ask s t)) bs)
  ask-decided b s t bs = go (leader-there M.head.units rs b.records s) (leader-there M.head.units rs b.records t)
    where
      of : {l m : ℕ} → Leader M.head.units (UpTo rs b.records) s l → Leader M.head.units (UpTo rs b.records) t m → Dec (Begins bs (field 131 (numbers (l ∷ m ∷ [])))) → Dec (Stands (Answers M b (ask s t)) bs)
      of {l} {m} h k (yes z) = yes (stands-in (field 131 (numbers (l ∷ m ∷ []))) z.0 (led h k) (sym z.1))
      of h k (no z) = no (λ s. z (ask-right h k s))

      go : (l : ℕ) × Leader M.head.units (UpTo rs b.records) s l → (m : ℕ) × Leader M.head.units (UpTo rs b.records) t m → Dec (Stands (Answers M b (ask s t)) bs)
      go l m = of l.1 m.1 (begins-decided (field 131 (numbers (l.0 ∷ m.0 ∷ []))) bs)

  -- A reason, and the sheets behind it.
  abbrev SomeReason : Moment → Question → List ℕ → Type 0
  SomeReason b q bs = (L : List ℕ) × Stands (Reasoned M b q L) bs

  filed-right : (L : List ℕ) (hs rest : List ℕ) {bs : List ℕ} → bs ≡ field 138 (numbers hs) ++ rest → M.head.sheeted ≡ true → Stands (Filed M L) bs → Sheets M.sheets L hs
  filed-right L hs rest e t (stands (unfiled n) more) = let z : ◌≡◌ {A = ℕ} 0 1 = cc in absurd (omega arith)
  filed-right L hs rest e t (stands (filed {hs = ks} h s) more) =
      let z : numbers ks ≡ numbers hs = (field-one 138 138 (numbers ks) (numbers hs) more rest e).1 in
      rw (numbers-one ks hs z) at s

  filed-listed : (L : List ℕ) {bs : List ℕ} → M.head.sheeted ≡ true → Stands (Filed M L) bs → (hs : List ℕ) × Begins bs (field 138 (numbers hs))
  filed-listed L t (stands (unfiled n) more) = let z : ◌≡◌ {A = ℕ} 0 1 = cc in absurd (omega arith)
  filed-listed L t (stands (filed {hs = hs} h s) more) = (hs, (more, refl))

  filed-decided : (L bs : List ℕ) → Dec (Stands (Filed M L) bs)
  filed-decided L bs = go M.head.sheeted refl (list-decided 138 bs)
    where
      of : M.head.sheeted ≡ true → (hs : List ℕ) → Begins bs (field 138 (numbers hs)) → Dec (Sheets M.sheets L hs) → Dec (Stands (Filed M L) bs)
      of e hs z (yes s) = yes (stands-in (field 138 (numbers hs)) z.0 (filed e s) (sym z.1))
      of e hs z (no n) = no (λ s. n (filed-right L hs z.0 z.1 e s))

      go : (c : Bool) → M.head.sheeted ≡ c → Dec ((hs : List ℕ) × Begins bs (field 138 (numbers hs))) → Dec (Stands (Filed M L) bs)
      go false e l = yes (stands-in [] bs (unfiled e) refl)
      go true e (yes l) = of e l.0 l.1 (sheets-decided M.sheets L l.0)
      go true e (no l) = no (λ s. l (filed-listed L e s))

  because-listed : {b : Moment} {s t : ℕ} {L bs : List ℕ} → Stands (Reasoned M b (explain s t) L) bs → Begins bs (field 132 (numbers L))
  because-listed (stands (because r) rest) = (rest, refl)

  because-decided : (b : Moment) (s t : ℕ) (bs : List ℕ) → Dec (SomeReason b (explain s t) bs)
  because-decided b s t bs = go (list-decided 132 bs)
    where
      of : (L : List ℕ) → Begins bs (field 132 (numbers L)) → Dec (Reason N rs b.records s t L) → Dec (SomeReason b (explain s t) bs)
      of L z (yes r) = yes (L, stands-in (field 132 (numbers L)) z.0 (because r) (sym z.1))
      of L z (no r) = no (λ s. r (reason-right L z.0 z.1 s.1))

      go : Dec ((L : List ℕ) × Begins bs (field 132 (numbers L))) → Dec (SomeReason b (explain s t) bs)
      go (yes l) = of l.0 l.1 (reason-decided N rs b.records s t l.0)
      go (no l) = no (λ s. l (s.0, because-listed s.1))

  breach-listed : {b : Moment} {L bs : List ℕ} → Stands (Reasoned M b broken L) bs → (K : List ℕ) × Begins bs (field 134 (numbers K))
  breach-listed (stands (breached {k = k} {L = L} e r) rest) = (k ∷ L, (rest, refl))

  breach-decided : (b : Moment) (bs : List ℕ) → Dec (SomeReason b broken bs)
  breach-decided b bs = go (earliest-or rs b.records M.pairs b.differs) (list-decided 134 bs)
    where
      of : {k : ℕ} (L : List ℕ) → Earliest rs b.records M.pairs b.differs k → Begins bs (field 134 (numbers (k ∷ L))) → Dec (PairReason M b k L) → Dec (SomeReason b broken bs)
      of {k} L e z (yes r) = yes (L, stands-in (field 134 (numbers (k ∷ L))) z.0 (breached e r) (sym z.1))
      of {k} L e z (no r) = no (λ s. r (let q = breach-right (k ∷ L) z.0 z.1 e s.1 in let i : q.0 ≡ L = let j : k ∷ L ≡ k ∷ q.0 = q.1 in cc in rw i at q.2))

      listed : {k : ℕ} (L : List ℕ) → Earliest rs b.records M.pairs b.differs k → Begins bs (field 134 (numbers L)) → Dec (SomeReason b broken bs)
      listed {k} [] e z = no (λ s. let q = breach-right [] z.0 z.1 e s.1 in let j : [] ≡ k ∷ q.0 = q.1 in let y : ◌≡◌ {A = ℕ} 0 1 = cc in omega arith)
      listed {k} (n ∷ L) e z = same (ℕ_discrete n k)
        where
          same : Dec (n ≡ k) → Dec (SomeReason b broken bs)
          same (yes i) = of L e (rw i at z) (reason-decided N rs b.records (pair_no M.pairs k).first (pair_no M.pairs k).second L)
          same (no i) = no (λ s. i (let q = breach-right (n ∷ L) z.0 z.1 e s.1 in let j : n ∷ L ≡ k ∷ q.0 = q.1 in cc))

      no-breach : {L cs : List ℕ} → Unbroken rs b.records M.pairs b.differs → Stands (Reasoned M b broken L) cs → ⊥
      no-breach u (stands (breached e r) rest) = earliest-some e u

      go : ((k : ℕ) × Earliest rs b.records M.pairs b.differs k) ⊎ Unbroken rs b.records M.pairs b.differs → Dec ((L : List ℕ) × Begins bs (field 134 (numbers L))) → Dec (SomeReason b broken bs)
      go (inl e) (yes l) = listed l.0 e.1 l.1
      go (inl e) (no l) = no (λ s. l (breach-listed s.1))
      go (inr u) l = no (λ s. no-breach u s.1)

  -- Where no reason stands, whether an answer does.
  explain-bare : (b : Moment) (s t : ℕ) (bs : List ℕ) → (SomeReason b (explain s t) bs → ⊥) → Dec (Stands (Answers M b (explain s t)) bs)
  explain-bare b s t bs n = go (dec_up_to rs b.records s t) (begins-decided (field 133 []) bs)
    where
      go : Dec (Follows (UpTo rs b.records) s t) → Dec (Begins bs (field 133 [])) → Dec (Stands (Answers M b (explain s t)) bs)
      go (no f) (yes z) = yes (stands-in (field 133 []) z.0 (apart f) (sym z.1))
      go (no f) (no z) = no (λ s. z (apart-right f s))
      go (yes f) z = no (λ s. n (follows-right f s))

  broken-bare : (b : Moment) (bs : List ℕ) → (SomeReason b broken bs → ⊥) → Dec (Stands (Answers M b broken) bs)
  broken-bare b bs n = go (earliest-or rs b.records M.pairs b.differs) (begins-decided (field 135 []) bs)
    where
      go : ((k : ℕ) × Earliest rs b.records M.pairs b.differs k) ⊎ Unbroken rs b.records M.pairs b.differs → Dec (Begins bs (field 135 [])) → Dec (Stands (Answers M b broken) bs)
      go (inl e) z = no (λ s. n (broken-right e.1 s))
      go (inr u) (yes z) = yes (stands-in (field 135 []) z.0 (intact u) (sym z.1))
      go (inr u) (no z) = no (λ s. z (intact-right u s))

  why-decided : (b : Moment) (s t : ℕ) (bs : List ℕ) → Dec (Stands (Answers M b (why s t)) bs)
  why-decided b s t bs = go (dec_up_to rs b.records s t) (led-there N M.head.units rs b.records) (begins-decided (field 137 []) bs)
    where
      of : {L : List ℕ} → (Follows (UpTo rs b.records) s t → ⊥) → Led N M.head.units (UpTo rs b.records) L → Dec (Begins bs (field 136 (numbers L))) → Dec (Stands (Answers M b (why s t)) bs)
      of {L} n d (yes z) = yes (stands-in (field 136 (numbers L)) z.0 (parted n d) (sym z.1))
      of n d (no z) = no (λ s. z (parted-right n d s))

      go : Dec (Follows (UpTo rs b.records) s t) → (L : List ℕ) × Led N M.head.units (UpTo rs b.records) L → Dec (Begins bs (field 137 [])) → Dec (Stands (Answers M b (why s t)) bs)
      go (yes f) d (yes z) = yes (stands-in (field 137 []) z.0 (joined f) (sym z.1))
      go (yes f) d (no z) = no (λ s. z (joined-right f s))
      go (no n) d z = of n d.1 (begins-decided (field 136 (numbers d.0)) bs)

  -- What stands at the front of the bytes for a question: its answer, a reason without its sheets, or neither.
  data Met (b : Moment) (q : Question) : List ℕ → Type 0 where
    right : {bs : List ℕ} → Stands (Answers M b q) bs → Met b q bs
    bare : {L f rest : List ℕ} → Reasoned M b q L f → (Stands (Filed M L) rest → ⊥) → Met b q (f ++ rest)
    none : {bs : List ℕ} → (Stands (Answers M b q) bs → ⊥) → (SomeReason b q bs → ⊥) → Met b q bs

  lone-met : (b : Moment) (q : Question) (bs : List ℕ) → (SomeReason b q bs → ⊥) → Dec (Stands (Answers M b q) bs) → Met b q bs
  lone-met b q bs n (yes s) = right s
  lone-met b q bs n (no m) = none m n

  reason-met : (b : Moment) (q : Question) (bs : List ℕ) → ((SomeReason b q bs → ⊥) → Dec (Stands (Answers M b q) bs)) → Dec (SomeReason b q bs) → Met b q bs
  reason-met b q bs d (yes r) = go r.0 r.1
    where
      filing : {L f : List ℕ} (rest : List ℕ) → Reasoned M b q L f → Dec (Stands (Filed M L) rest) → Met b q (f ++ rest)
      filing {L} {f} rest r (no n) = bare r n
      filing {L} {f} rest r (yes s) = behind-it s
        where
          behind-it : {cs : List ℕ} → Stands (Filed M L) cs → Met b q (f ++ cs)
          behind-it (stands {f = g} x more) = right {bs = f ++ (g ++ more)} (rw (← append_assoc f g more) (stands (reasoned r x) more))

      go : {cs : List ℕ} (L : List ℕ) → Stands (Reasoned M b q L) cs → Met b q cs
      go L (stands r rest) = filing rest r (filed-decided L rest)
  reason-met b q bs d (no n) = lone-met b q bs n (d n)

  reasonless : {b : Moment} {q : Question} {bs : List ℕ} → ((L f : List ℕ) → Reasoned M b q L f → ⊥) → SomeReason b q bs → ⊥
  reasonless {b} {q} n s = go s.1
    where
      go : {L cs : List ℕ} → Stands (Reasoned M b q L) cs → ⊥
      go (stands r rest) = n _ _ r

  question-met : (b : Moment) (q : Question) (bs : List ℕ) → Met b q bs
  question-met b (ask s t) bs = lone-met b (ask s t) bs (reasonless (λ L f r. no-reason refl r)) (ask-decided b s t bs)
  question-met b (explain s t) bs = reason-met b (explain s t) bs (explain-bare b s t bs) (because-decided b s t bs)
  question-met b broken bs = reason-met b broken bs (broken-bare b bs) (breach-decided b bs)
  question-met b (why s t) bs = lone-met b (why s t) bs (reasonless (λ L f r. no-reason refl r)) (why-decided b s t bs)

  totals-decided : (bs : List ℕ) → Dec (Stands (Totalled M) bs)
  totals-decided bs = go (count_it (λ x. Least (UpTo rs (length rs)) x x) (λ x. dec_least rs (λ n. leb n (length rs)) (λ n. n ≤ length rs) (up_to-test (length rs)) x x) N) (count_it (Idle rs) (dec_idle rs) (length rs))
    where
      of : {c i : ℕ} → Classes N (UpTo rs (length rs)) c → Idles rs i → Dec (Begins bs (field 143 (numbers (c ∷ i ∷ [])))) → Dec (Stands (Totalled M) bs)
      of {c} {i} h k (yes z) = yes (stands-in (field 143 (numbers (c ∷ i ∷ []))) z.0 (total h k) (sym z.1))
      of h k (no z) = no (λ s. z (totals-right h k s))

      go : (c : ℕ) × Classes N (UpTo rs (length rs)) c → (i : ℕ) × Idles rs i → Dec (Stands (Totalled M) bs)
      go c i = of c.1 i.1 (begins-decided (field 143 (numbers (c.0 ∷ i.0 ∷ []))) bs)

  -- The report of the items, from a place on, is sound or has a first place at fault.
  abbrev pub Told : Moment → List Item → ℕ → List ℕ → Type 0
  Told b is at bs = Sound M b is bs ⊎ ((p : ℕ) × FaultAt M b is at bs p)

  pub sound-or-fault : (b : Moment) (is : List Item) (at : ℕ) (bs : List ℕ) → Told b is at bs
  sound-or-fault b [] at bs = go (totals-decided bs)
    where
      end : {f : List ℕ} → Totalled M f → (rest : List ℕ) → Told b [] at (f ++ rest)
      end {f} t [] = inl (rw append-nil (totals t))
      end {f} t (x ∷ rest) = inr (at + length f, spare t x rest)

      go : {bs : List ℕ} → Dec (Stands (Totalled M) bs) → Told b [] at bs
      go (yes (stands t rest)) = end t rest
      go (no n) = inr (at, closing n)
  sound-or-fault b (noted n ∷ is) at bs = go (sound-or-fault (after (noted n) b) is at bs)
    where
      go : Told (after (noted n) b) is at bs → Told b (noted n ∷ is) at bs
      go (inl s) = inl (passed s)
      go (inr f) = inr (f.0, past f.1)
  sound-or-fault b (posed q ∷ is) at bs = go (λ at' bs'. sound-or-fault (after (posed q) b) is at' bs') (question-met b q bs)
    where
      on : {f rest : List ℕ} → Answers M b q f → Told (after (posed q) b) is (at + length f) rest → Told b (posed q ∷ is) at (f ++ rest)
      on a (inl s) = inl (answered a s)
      on a (inr f) = inr (f.0, behind a f.1)

      go : {bs : List ℕ} → ((at' : ℕ) (bs' : List ℕ) → Told (after (posed q) b) is at' bs') → Met b q bs → Told b (posed q ∷ is) at bs
      go r (right (stands {f = f} a rest)) = on a (r (at + length f) rest)
      go r (bare {f = f} x n) = inr (at + length f, astray x n)
      go r (none n m) = inr (at, wrong n (λ L s. m (L, s)))
