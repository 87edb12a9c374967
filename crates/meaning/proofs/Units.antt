-- The leader of document 02, No. 3: it is one and there is one, equal tags and only they have the same, with U = N it is the smallest tag, and counting by it counts the classes.
-- A labelling by the smallest tags, searched for its first unit, finds it; it is decided, so that the table of cases computes. Assumes nothing.
use Prim.Native.Nat.{ℕ, zero, suc, ◌+◌, ◌-◌, ◌≤◌, ◌<◌, max}
use native.Mathlib.Omega.{arith}
use native.Mathlib.Decide.{ℕ_discrete, dec_le}
use mathlib.Core.Path.{◌≡◌, refl, sym, ◌∙◌, ap}
use mathlib.Core.Logic.Dec
use mathlib.Core.Logic.{◌≢◌, ◌↔◌}
use mathlib.Core.List.{List, [], ◌∷◌, Memᴰ}
use lib.Dec.{leb}
use lib.ListN.{length, get_or}
use Rattle.meaning.specs.Following.{Rec, eq, Follows, flip, chain, Class, UpTo, Least, Leader, unit, no-unit}
use Rattle.meaning.specs.Labels.{Labels}
use Rattle.meaning.specs.Seats.{Found, first, nowhere}
use Rattle.meaning.specs.Totals.{Count, none, one, skip, Classes}
use Rattle.meaning.proofs.Leaders.{least-of, least-same}
use Rattle.meaning.proofs.Decide.{bound, small_all, label, label-labels, label_same, label-least, dec_up_to, dec_below, dec_least, least-one, up_to-test}
use Rattle.meaning.proofs.Laws.{follows-small, small-those, least-low}
use Rattle.meaning.proofs.Reference.{Small}
use Rattle.meaning.proofs.Rising.{take_out}

-- The leader is one, ..
pub leader-one : {U : ℕ} {S : Rec → Type 0} {s l m : ℕ} → Leader U S s l → Leader U S s m → l ≡ m
leader-one {l = l} {m = m} (unit u c h) (unit u' c' h') = omega (arith, h m u' c', h' l u c)
leader-one (unit u c h) (no-unit n k) = absurd (n _ u c)
leader-one (no-unit n k) (unit u c h) = absurd (n _ u c)
leader-one (no-unit n h) (no-unit n' h') = least-one h h'

-- .. a tag of its class, ..
pub leader-member : {U : ℕ} {S : Rec → Type 0} {s l : ℕ} → Leader U S s l → Class S s l
leader-member (unit u c h) = c
leader-member (no-unit n h) = h.member

least-along : {S : Rec → Type 0} {s t l : ℕ} → Follows S s t → Least S t l → Least S s l
least-along f h = record { member = chain f h.member; least = λ x i. h.least x (chain (flip f) i) }

-- .. the same for equal tags ..
pub leader-along : {U : ℕ} {S : Rec → Type 0} {s t l : ℕ} → Follows S s t → Leader U S t l → Leader U S s l
leader-along f (unit u c h) = unit u (chain f c) (λ x v i. h x v (chain (flip f) i))
leader-along f (no-unit n h) = no-unit (λ x v i. n x v (chain (flip f) i)) (least-along f h)

-- .. and for no others: demand 2, "two tags get the same leader exactly when their equality follows".
pub leader-same : {U : ℕ} {S : Rec → Type 0} {s t l m : ℕ} → Leader U S s l → Leader U S t m → Follows S s t ↔ (l ≡ m)
leader-same {l = l} {m = m} h k = (λ f. leader-one h (leader-along f k), λ e. chain (leader-member h) (flip (rw (← e) at (leader-member k))))

-- With no unit in reach the leader is the smallest tag; so it is with U = N, since a tag of the job is equal to tags of the job only. And so it is with U = 0.
pub leader-none : {U : ℕ} {S : Rec → Type 0} {s l : ℕ} → ((x : ℕ) → Class S s x → x < U) → Leader U S s l ↔ Least S s l
leader-none {U} {S} {s} {l} h = (go, λ k. no-unit (λ x v c. let b : x < U = h x c in omega arith) k)
  where
    go : Leader U S s l → Least S s l
    go (unit u c k) = let b : l < U = h l c in absurd (omega arith)
    go (no-unit n k) = k

pub leader-all : {S : Rec → Type 0} {s l : ℕ} → Leader 0 S s l ↔ Least S s l
leader-all {S} {s} {l} = (go, λ k. unit (omega arith) k.member (λ x v c. k.least x c))
  where
    go : Leader 0 S s l → Least S s l
    go (unit u c k) = record { member = c; least = λ x i. k x (omega arith) i }
    go (no-unit n k) = k

-- One more tag, before the others: it is the first with the label, or nothing changes.
pub found_here : {f : ℕ → ℕ} {l x e : ℕ} → x < e → f x ≡ l → Found f l x e x
found_here {x = x} k q = first {y = x} (omega arith) k q (λ z a b. absurd (omega arith))

pub found-on : {f : ℕ → ℕ} {l x e m : ℕ} → f x ≢ l → Found f l (suc x) e m → Found f l x e m
found-on {f} {l} {x} d (first {y = y} a b q h) = first {y = y} (omega arith) b q (λ z i j r. elim (ℕ_discrete z x) [ yes o ↦ d (rw o at r) | no o ↦ h z (omega arith) j r ])
found-on {f} {l} {x} d (nowhere h) = nowhere (λ z i j r. elim (ℕ_discrete z x) [ yes o ↦ d (rw o at r) | no o ↦ h z (omega arith) j r ])

-- A search sees no more of a labelling than what it goes through.
pub found-same : {f g : ℕ → ℕ} {l x e m : ℕ} → ((z : ℕ) → z < e → f z ≡ g z) → Found f l x e m → Found g l x e m
found-same is (first {y = y} b c d h) = first {y = y} b c (sym (is y c) ∙ d) (λ z i j q. h z i j (is z (omega arith) ∙ q))
found-same is (nowhere h) = nowhere (λ z i j q. h z i j (is z j ∙ q))

-- In a labelling by the smallest tags, the first tag from U up with the label of s is the smallest unit of its class, and where none has it the label itself leads.
module _ {S : Rec → Type 0} {f : ℕ → ℕ} (L : Labels f) (exact : (s t : ℕ) → Follows S s t ↔ (f s ≡ f t)) {N U s : ℕ} (tags : (x : ℕ) → Class S s x → x < N) where
  pub found-leader : {m : ℕ} → Found f (f s) U N m → Leader U S s m
  found-leader (first {y = y} a b e h) = unit a ((exact s y).1 (sym e)) low
    where
      low : (x : ℕ) → U ≤ x → Class S s x → y ≤ x
      low x v c = go (dec_le y x)
        where
          go : Dec (y ≤ x) → y ≤ x
          go (yes l) = l
          go (no l) = absurd (h x v (omega arith) (sym ((exact s x).0 c)))
  found-leader (nowhere h) = no-unit (λ x v c. h x v (tags x c) (sym ((exact s x).0 c))) (least-of L exact s)

-- No number from here on is in the class of s.
abbrev pub past : List Rec → ℕ → ℕ
past rs s = max (bound rs) (suc s)

pub in_reach : (rs : List Rec) (R s x : ℕ) → Class (UpTo rs R) s x → x < past rs s
in_reach rs R s x f = (follows-small (past rs s) (small-those (past rs s) (small_all rs (past rs s) (omega arith))) f).0 (omega arith)

-- Being the leader is decided: what is smaller is searched below l, and units below a number that the class cannot pass.
module _ (U : ℕ) (rs : List Rec) (R s l : ℕ) where
  unfoldable pub dec_units : (k : ℕ) → Dec ((x : ℕ) → x < k → (U ≤ x) × Class (UpTo rs R) s x → ⊥)
  unfolding dec_below Dec.and dec_le dec_up_to
  dec_units = dec_below (λ x. (U ≤ x) × Class (UpTo rs R) s x) (λ x. Dec.and (dec_le U x) (dec_up_to rs R s x))

  unfoldable pub dec_leader : Dec (Leader U (UpTo rs R) s l)
  unfolding dec_units dec_le dec_up_to dec_least
  dec_leader = go (dec_le U l) (dec_up_to rs R s l) (dec_units l) (dec_units (past rs s)) (dec_least rs (λ n. leb n R) (λ n. n ≤ R) (up_to-test R) s l)
    where
      low : ((x : ℕ) → x < l → (U ≤ x) × Class (UpTo rs R) s x → ⊥) → (x : ℕ) → U ≤ x → Class (UpTo rs R) s x → l ≤ x
      low h x u c = le (dec_le l x)
        where
          le : Dec (l ≤ x) → l ≤ x
          le (yes k) = k
          le (no k) = absurd (h x (omega arith) (u, c))

      apart : U ≤ l → (((x : ℕ) → x < l → (U ≤ x) × Class (UpTo rs R) s x → ⊥) → ⊥) → Leader U (UpTo rs R) s l → ⊥
      apart u h (unit v c k) = h (λ x b p. let q : l ≤ x = k x p.0 p.1 in omega arith)
      apart u h (no-unit n k) = n l u k.member

      none-there : (U ≤ l → ⊥) → Leader U (UpTo rs R) s l → (x : ℕ) → x < past rs s → (U ≤ x) × Class (UpTo rs R) s x → ⊥
      none-there u (unit v c k) x b p = u v
      none-there u (no-unit n k) x b p = n x p.0 p.1

      least : (U ≤ l → ⊥) → Leader U (UpTo rs R) s l → Least (UpTo rs R) s l
      least u (unit v c k) = absurd (u v)
      least u (no-unit n k) = k

      go : Dec (U ≤ l) → Dec (Class (UpTo rs R) s l) → Dec ((x : ℕ) → x < l → (U ≤ x) × Class (UpTo rs R) s x → ⊥) → Dec ((x : ℕ) → x < past rs s → (U ≤ x) × Class (UpTo rs R) s x → ⊥)
          → Dec (Least (UpTo rs R) s l) → Dec (Leader U (UpTo rs R) s l)
      go (yes u) (yes c) (yes h) n d = yes (unit u c (low h))
      go (yes u) (yes c) (no h) n d = no (apart u h)
      go (yes u) (no c) h n d = no (λ k. c (leader-member k))
      go (no u) c h (yes n) (yes d) = yes (no-unit (λ x v f. n x (in_reach rs R s x f) (v, f)) d)
      go (no u) c h (yes n) (no d) = no (λ k. d (least u k))
      go (no u) c h (no n) d = no (λ k. n (none-there u k))

-- Every tag has a leader, whatever the records.
found-there : (f : ℕ → ℕ) (l x n e : ℕ) → x + n ≡ e → (m : ℕ) × Found f l x e m
found-there f l x zero e q = (l, nowhere (λ z a b. absurd (omega arith)))
found-there f l x (suc n) e q = go (ℕ_discrete (f x) l) (found-there f l (suc x) n e (omega arith))
  where
    go : Dec (f x ≡ l) → (m : ℕ) × Found f l (suc x) e m → (m : ℕ) × Found f l x e m
    go (yes d) r = (x, found_here (omega arith) d)
    go (no d) r = (r.0, found-on d r.1)

pub leader-there : (U : ℕ) (rs : List Rec) (R s : ℕ) → (l : ℕ) × Leader U (UpTo rs R) s l
leader-there U rs R s =
    let r = found-there (label rs (λ n. leb n R)) (label rs (λ n. leb n R) s) U (past rs s - U) (U + (past rs s - U)) refl in
    (r.0, found-leader (label-labels rs (λ n. leb n R)) (label_same rs (λ n. leb n R) (λ n. n ≤ R) (up_to-test R)) (λ x f. let k = in_reach rs R s x f in omega (arith, k)) r.1)

-- All that is counted, as a list.
counted : {Q : ℕ → Type 0} {N m : ℕ} → Count Q N m → (X : List ℕ) × (length X ≡ m) × ((y : ℕ) → y < N → Q y → Memᴰ y X)
counted none = ([], refl, λ y l q. absurd (omega arith))
counted {Q} (one {N = N} p c) = let r = counted c in (N ∷ r.0, ap suc r.1, λ y l q. go r y l q (ℕ_discrete y N))
  where
    go : {m : ℕ} → (r : (X : List ℕ) × (length X ≡ m) × ((y : ℕ) → y < N → Q y → Memᴰ y X)) → (y : ℕ) → y < suc N → Q y → Dec (y ≡ N) → Memᴰ y (N ∷ r.0)
    go r y l q (yes e) = Memᴰ.head e
    go r y l q (no e) = Memᴰ.tail (r.2 y (omega arith) q)
counted {Q} (skip {N = N} p c) = let r = counted c in (r.0, r.1, λ y l q. go r y l q (ℕ_discrete y N))
  where
    go : {m : ℕ} → (r : (X : List ℕ) × (length X ≡ m) × ((y : ℕ) → y < N → Q y → Memᴰ y X)) → (y : ℕ) → y < suc N → Q y → Dec (y ≡ N) → Memᴰ y r.0
    go r y l q (yes e) = absurd (p (rw e at q))
    go r y l q (no e) = r.2 y (omega arith) q

-- Each of P below N is matched with one of Q below N, and no two with the same: so there are no more of them.
module _ {P : ℕ → Type 0} (M : ℕ → ℕ → Type 0) (apart : (x x' y : ℕ) → P x → P x' → M x y → M x' y → x ≡ x') where
  matched : {N n : ℕ} → Count P N n → (X : List ℕ) → ((x : ℕ) → x < N → P x → (y : ℕ) × Memᴰ y X × M x y) → n ≤ length X
  matched none X h = omega arith
  matched (one {N = N} p c) X h =
      let z = h N (omega arith) p in
      let t = take_out z.0 X z.1 in
      let less = matched c t.0 (λ x l q. let w = h x (omega arith) q in (w.0, t.2 w.0 (λ e. absurd (let f : x ≡ N = apart x N z.0 q p (rw e at w.2) z.2 in omega arith)) w.1, w.2)) in
      omega (arith, less, t.1)
  matched (skip p c) X h = matched c X (λ x l. h x (omega arith))

  count-matched : {Q : ℕ → Type 0} {N n m : ℕ} → ((x : ℕ) → x < N → P x → (y : ℕ) × (y < N) × Q y × M x y) → Count P N n → Count Q N m → n ≤ m
  count-matched h c d = let r = counted d in let l = matched c r.0 (λ x l p. let z = h x l p in (z.0, r.2 z.0 z.1 z.2, z.3)) in omega (arith, l, r.1)

-- Each class has one leader, whatever U is: the tags that lead their own class are as many as the classes.
module _ {N U : ℕ} (rs : List Rec) (small : (i : ℕ) → i < length rs → Small N (get_or rs i (eq 0 0))) (k : ℕ) where
  pub classes-leader : {n m : ℕ} → Count (λ x. Leader U (UpTo rs k) x x) N n → Classes N (UpTo rs k) m → n ≡ m
  classes-leader {n} {m} c d = omega (arith, most c d, fewest c d)
    where
      smallest : (s : ℕ) → s < N → (l : ℕ) × (l < N) × Least (UpTo rs k) l l × Least (UpTo rs k) s l
      smallest s b =
          let z : Least (UpTo rs k) s (label rs (λ n. leb n k) s) = label-least rs (λ n. leb n k) (λ n. n ≤ k) (up_to-test k) s in
          (label rs (λ n. leb n k) s, omega (arith, least-low z), least-along (flip z.member) z, z)

      leading : (s : ℕ) → s < N → (l : ℕ) × (l < N) × Leader U (UpTo rs k) l l × Leader U (UpTo rs k) s l
      leading s b =
          let z = leader-there U rs k s in
          (z.0, (follows-small N (small-those N small) (leader-member z.1)).0 b, leader-along (flip (leader-member z.1)) z.1, z.1)

      most : Count (λ x. Leader U (UpTo rs k) x x) N n → Classes N (UpTo rs k) m → n ≤ m
      most = count-matched (λ x y. Least (UpTo rs k) x y) (λ x x' y p p' q q'. (leader-same p p').0 ((least-same q q').1 refl)) (λ x l p. smallest x l)

      fewest : Count (λ x. Leader U (UpTo rs k) x x) N n → Classes N (UpTo rs k) m → m ≤ n
      fewest c d = count-matched (λ x y. Leader U (UpTo rs k) x y) (λ x x' y p p' q q'. (least-same p p').0 ((leader-same q q').1 refl)) (λ x l p. leading x l) d c
