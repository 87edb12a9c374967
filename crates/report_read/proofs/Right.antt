-- Which field is right at a place: leaders and totals are one, so that one field is right for an ask, for an explain that does not
-- follow and for the totals; for an explain that follows, the numbers that stand there decide.
-- Assumes nothing.
use Prim.Native.Nat.{ℕ, suc, ◌+◌, ◌*◌, ◌≤◌, ◌<◌}
use mathlib.Core.Path.{◌≡◌, refl, sym, ◌∙◌, ap, subst}
use mathlib.Core.List.{List, [], ◌∷◌, ◌++◌, append-nil, append_assoc}
use lib.ListN.{length, drop, get_or, drop_of_length-le}
use lib.Seq.{drop-cons}
use Rattle.meaning.specs.Following.{Follows, UpTo, Leader}
use Rattle.meaning.specs.Looks.{Led}
use Rattle.meaning.specs.Reasons.{Reason}
use Rattle.meaning.specs.Totals.{Classes, Idles}
use Rattle.meaning.proofs.Laws.{classes-one, idles-one, reason-follows}
use Rattle.meaning.proofs.Looks.{led-one}
use Rattle.meaning.proofs.Units.{leader-one}
use Rattle.job_field.specs.Items.{Matter, Moment, after, Question, ask, explain, broken, why, Item, posed}
use Rattle.report.specs.Report.{numbers, field, Reasoned, because, breached, Filed, Answers, led, reasoned, apart, intact, parted, joined, Totalled, total, Sound, totals, answered}
use Rattle.report.specs.Broken.{Earliest, Unbroken, PairReason}
use Rattle.report.specs.Fault.{Stands, stands, FaultAt, behind, astray, spare}
use Rattle.report_read.specs.Read.{Holds, FrontAt, whole, none}
use Rattle.std.specs.Prelude.{Some, None}
use Rattle.report.proofs.Bytes.{numbers-one, length-numbers, field-one}
use Rattle.report.proofs.Fault.{Fielded}
use Rattle.report.proofs.Broken.{earliest-one, earliest-some}
use Rattle.report.proofs.Known.{no-reason}
use Rattle.report_read.proofs.Read.{holds-rest, holds-one, field-body}

-- What stands at the front of the bytes.
abbrev pub Begins : List ℕ → List ℕ → Type 0
Begins bs f = (rest : List ℕ) × (bs ≡ f ++ rest)

module _ {M : Matter} {b : Moment} {s t : ℕ} where
  pub ask-right : {bs : List ℕ} {l m : ℕ} → Leader M.head.units (UpTo M.records b.records) s l → Leader M.head.units (UpTo M.records b.records) t m → Stands (Answers M b (ask s t)) bs → Begins bs (field 131 (numbers (l ∷ m ∷ [])))
  ask-right {l = l} {m = m} h k (stands (led {l = l'} {m = m'} h' k') rest) =
      let p : l' ≡ l = leader-one h' h in
      let q : m' ≡ m = leader-one k' k in
      (rest, rw (p, q))
  ask-right h k (stands (reasoned r g) rest) = absurd (no-reason refl r)

  -- The reason of an explain, and its field.
  pub explained : {L f : List ℕ} → Reasoned M b (explain s t) L f → (f ≡ field 132 (numbers L)) × Reason M.head.size M.records b.records s t L
  explained (because r) = (refl, r)

  pub apart-right : {bs : List ℕ} → (Follows (UpTo M.records b.records) s t → ⊥) → Stands (Answers M b (explain s t)) bs → Begins bs (field 133 [])
  apart-right n (stands (reasoned r g) rest) = absurd (n (reason-follows (explained r).1))
  apart-right n (stands (apart h) rest) = (rest, refl)

  -- A list that stands there is the only one that can be right.
  pub reason-right : {bs L' : List ℕ} (L rest : List ℕ) → bs ≡ field 132 (numbers L) ++ rest → Stands (Reasoned M b (explain s t) L') bs → Reason M.head.size M.records b.records s t L
  reason-right {L' = L'} L rest e (stands r more) =
      let o = explained r in
      let z : numbers L' ≡ numbers L = (field-one 132 132 (numbers L') (numbers L) more rest (rw o.0 at e)).1 in
      rw (numbers-one L' L z) at o.1

  -- Where the equality follows, only a list can be right.
  pub follows-right : {bs : List ℕ} → Follows (UpTo M.records b.records) s t → Stands (Answers M b (explain s t)) bs → (L : List ℕ) × Stands (Reasoned M b (explain s t) L) bs
  follows-right f (stands (reasoned {L = L} {f = x} {g = g} r y) rest) = (L, rw (append_assoc x g rest) (stands r (g ++ rest)))
  follows-right f (stands (apart h) rest) = absurd (h f)

  -- A why has one right field: the leaders are one, and following decides between the two kinds.
  pub parted-right : {bs L : List ℕ} → (Follows (UpTo M.records b.records) s t → ⊥) → Led M.head.size M.head.units (UpTo M.records b.records) L → Stands (Answers M b (why s t)) bs → Begins bs (field 136 (numbers L))
  parted-right n d (stands (parted h d') rest) = (rest, rw (led-one d' d))
  parted-right n d (stands (joined h) rest) = absurd (n h)
  parted-right n d (stands (reasoned r g) rest) = absurd (no-reason refl r)

  pub joined-right : {bs : List ℕ} → Follows (UpTo M.records b.records) s t → Stands (Answers M b (why s t)) bs → Begins bs (field 137 [])
  joined-right f (stands (parted h d) rest) = absurd (h f)
  joined-right f (stands (joined h) rest) = (rest, refl)
  joined-right f (stands (reasoned r g) rest) = absurd (no-reason refl r)

-- A 06: where no pair is broken one field is right, and where one is, a list that begins with its number.
module _ {M : Matter} {b : Moment} where
  -- The reason of a broken pair, and its field.
  pub told-broken : {L f : List ℕ} → Reasoned M b broken L f → (k : ℕ) × (f ≡ field 134 (numbers (k ∷ L))) × Earliest M.records b.records M.pairs b.differs k × PairReason M b k L
  told-broken (breached {k = k} e r) = (k, refl, e, r)

  pub intact-right : {bs : List ℕ} → Unbroken M.records b.records M.pairs b.differs → Stands (Answers M b broken) bs → Begins bs (field 135 [])
  intact-right n (stands (reasoned r g) rest) = absurd (earliest-some (told-broken r).2 n)
  intact-right n (stands (intact u) rest) = (rest, refl)

  -- Where a pair is broken, only a list can be right.
  pub broken-right : {bs : List ℕ} {k : ℕ} → Earliest M.records b.records M.pairs b.differs k → Stands (Answers M b broken) bs → (L : List ℕ) × Stands (Reasoned M b broken L) bs
  broken-right e (stands (reasoned {L = L} {f = x} {g = g} r y) rest) = (L, rw (append_assoc x g rest) (stands r (g ++ rest)))
  broken-right e (stands (intact u) rest) = absurd (earliest-some e u)

  -- A list that stands there is the only one that can be right.
  pub breach-right : {bs L' : List ℕ} {k : ℕ} (L rest : List ℕ) → bs ≡ field 134 (numbers L) ++ rest → Earliest M.records b.records M.pairs b.differs k → Stands (Reasoned M b broken L') bs → (K : List ℕ) × (L ≡ k ∷ K) × PairReason M b k K
  breach-right {L' = L'} {k = k} L rest e h (stands r more) =
      let o = told-broken r in
      let q : o.0 ≡ k = earliest-one o.2 h in
      let z : numbers (o.0 ∷ L') ≡ numbers L = (field-one 134 134 (numbers (o.0 ∷ L')) (numbers L) more rest (rw o.1 at e)).1 in
      rw (← q) (L', sym (numbers-one (o.0 ∷ L') L z), o.3)

pub totals-right : {M : Matter} {bs : List ℕ} {c i : ℕ} → Classes M.head.size (UpTo M.records (length M.records)) c → Idles M.records i → Stands (Totalled M) bs → Begins bs (field 143 (numbers (c ∷ i ∷ [])))
totals-right {c = c} {i = i} h k (stands (total {c = c'} {i = i'} h' k') rest) =
    let p : c' ≡ c = classes-one h' h in
    let q : i' ≡ i = idles-one k' k in
    (rest, rw (p, q))

module _ (report : List ℕ) (at : ℕ) where
  -- Where the front is cut no field is right; where it is whole, a right field has its kind and length.
  pub cut-wrong : {P : List ℕ → Type 0} → ((f : List ℕ) → P f → Fielded f) → FrontAt report at None → Stands P (drop at report) → ⊥
  cut-wrong {P} fielded (none n) s = go refl s
    where
      go : {bs : List ℕ} → bs ≡ drop at report → Stands P bs → ⊥
      go e (stands {f = f} p rest) =
          let d = fielded f p in
          n d.kind d.body (holds-rest report at (field d.kind d.body) rest (sym e ∙ ap (λ (l : List ℕ). l ++ rest) d.is))

  pub front-one : {k n : ℕ} (kind : ℕ) (body : List ℕ) → FrontAt report at (Some (record { kind = k; size = n })) → Begins (drop at report) (field kind body) → (k ≡ kind) × (n ≡ length body)
  front-one kind body (whole {kind = k} mine h) b =
      let r = field-one k kind mine body (drop (at + length (field k mine)) report) b.0 (sym h ∙ b.1) in
      (r.0, ap length r.1)

  -- The numbers of a whole field are read off its body.
  pub listed-field : {kind n : ℕ} (L : List ℕ) → FrontAt report at (Some (record { kind = kind; size = n })) → n ≡ 2 * length L → Holds report (at + 3) (numbers L) → Holds report at (field kind (numbers L))
  listed-field L (whole {kind = kind} body h) e k =
      let b : body ≡ numbers L = holds-one report (at + 3) body (numbers L) (e ∙ sym (length-numbers L)) (field-body report at kind body h) k in
      subst (λ (c : List ℕ). Holds report at (field kind c)) b h

  module _ {M : Matter} {b : Moment} where
    -- A right field is passed, and the report goes on behind it.
    pub sound-on : {q : Question} {f : List ℕ} {is : List Item} → Answers M b q f → Holds report at f → Sound M (after (posed q) b) is (drop (at + length f) report) → Sound M b (posed q ∷ is) (drop at report)
    sound-on a h s = rw h (answered a s)

    pub fault-on : {q : Question} {f : List ℕ} {is : List Item} {p : ℕ} → Answers M b q f → Holds report at f → FaultAt M (after (posed q) b) is (at + length f) (drop (at + length f) report) p → FaultAt M b (posed q ∷ is) at (drop at report) p
    fault-on a h f = rw h (behind a f)

    -- A reason stands, and behind it not its sheets.
    pub fault-astray : {q : Question} {L f : List ℕ} {is : List Item} → Reasoned M b q L f → Holds report at f → (Stands (Filed M L) (drop (at + length f) report) → ⊥) → FaultAt M b (posed q ∷ is) at (drop at report) (at + length f)
    fault-astray r h n = rw h (astray r n)

    -- Behind the totals nothing is left, or the first of what is left is at fault.
    pub sound-end : {f : List ℕ} → Totalled M f → Holds report at f → length report ≤ at + length f → Sound M b [] (drop at report)
    sound-end {f} t h l = totals (subst (λ (bs : List ℕ). Totalled M bs) (sym (h ∙ ap (λ (r : List ℕ). f ++ r) (drop_of_length-le report l) ∙ append-nil f)) t)

    pub fault-end : {f : List ℕ} → Totalled M f → Holds report at f → at + length f < length report → FaultAt M b [] at (drop at report) (at + length f)
    fault-end {f} t h l = rw (h ∙ ap (λ (r : List ℕ). f ++ r) (drop-cons report (at + length f) 0 l)) (spare t (get_or report (at + length f) 0) (drop (suc (at + length f)) report))
