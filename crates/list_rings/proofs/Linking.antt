-- Going round a ring labels those of its class and no others. So a join is one of classes, and taken back it leaves labels and rings as they were before it. Assumes nothing.
use Prim.Native.Nat.{ℕ, suc, ◌+◌, ◌≤◌, ◌<◌}
use native.Mathlib.Omega.{arith}
use native.Mathlib.Decide.{ℕ_discrete, dec_lt}
use mathlib.Core.Path.{◌≡◌, refl, ap, ◌∙◌, fun_ext}
use mathlib.Core.Logic.{◌≢◌, ◌⊎◌, inl, inr}
use mathlib.Core.Bool.{cond}
use mathlib.Core.List.Memᴰ
use mathlib.Core.List.{List, ◌∷◌, Memᴰ}
use lib.Dec.{eqb}
use lib.ListN.{set, length-set}
use borrow.Author.Tests.{eq-eqb, ne_eqb}
use Rattle.meaning.specs.Joins.{put}
use Rattle.meaning.specs.Labels.{into}
use Rattle.meaning.proofs.Log.{put-hit, put-miss}
use Rattle.meaning.specs.Limits.{most_tags}
use Rattle.table.specs.Places.{LABEL, Large, MEMBER, TRAIL, WEIGHT, all_of, class_part, link_part, ring_part}
use Rattle.table.specs.Map.{label_of, Within, member_of, trail_of}
use Rattle.table.proofs.Frame.{seen-past, seen-in, seen-out, seen-within, within-refl, within-trans, within_wider, within-set}
use Rattle.list_ways.specs.Rings.{Path, Ring, Apart, none, more, swapped, Ahead, away}
use Rattle.list_ways.proofs.Rings.{path-one, ring-alone, swap-twice, parted, joined-x, Classes, grown-classes, built-classes, grown-trail, grown-then, grown-none, Last, grown-last}
use Rattle.list_ways.proofs.Walking.{ahead-end, Next, ahead-next, away-next, ahead-start, built-room}
use Rattle.list_rings.specs.Links.{Since, Standing, Ringed, Named, Exchanged, Lone, Scattered, Linked, Unlinked, Returned}

-- While a ring is gone round: R is left of it.
pub record Naming (w w' : List ℕ) (x v z : ℕ) : Type 0 where
  pub long : Large w
  pub tag : x < most_tags
  pub kept : Within (all_of LABEL) w w'
  pub list : List ℕ
  pub path : Path (member_of w) (member_of w x) list x
  pub other : (u : ℕ) → Memᴰ u list → u ≢ x
  pub rest : List ℕ
  pub ahead : Ahead most_tags (member_of w) x z rest
  pub sub : (u : ℕ) → Memᴰ u rest → Memᴰ u list
  pub hit : (u : ℕ) → Memᴰ u list → Memᴰ u rest ⊎ (label_of w' u ≡ v)
  pub miss : (u : ℕ) → (Memᴰ u list → ⊥) → label_of w' u ≡ label_of w u

members-same : {w w' : List ℕ} → Within (all_of LABEL) w w' → member_of w' ≡ member_of w
members-same f = seen-within MEMBER f (inl (omega arith))

label-put : (w : List ℕ) (x v : ℕ) → Large w → x < most_tags → label_of (set w (LABEL.at + x) v) ≡ put x v (label_of w)
label-put w x v h l = seen-in LABEL w x v l (omega arith)

pub naming-start : {w : List ℕ} {x v z : ℕ} → Ringed w x → z ≡ member_of w x → Naming w w x v z
naming-start {w} {x} {v} {z} r q = record {
  long = r.long;
  tag = r.tag;
  kept = within-refl w;
  list = r.rest;
  path = r.ahead.path;
  other = r.ahead.other;
  rest = r.rest;
  ahead = rw q r.ahead;
  sub = λ u i. i;
  hit = λ u i. inl i;
  miss = λ u n. refl;
}

pub naming-tag : {w w' : List ℕ} {x v z : ℕ} → z ≢ x → Naming w w' x v z → z < most_tags
naming-tag d n = (ahead-next d n.ahead).tag

pub naming-more : {w w₁ w₂ : List ℕ} {x v z z' : ℕ} → z ≢ x → Naming w w₁ x v z → w₂ ≡ set w₁ (LABEL.at + z) v → z' ≡ member_of w₂ z → Naming w w₂ x v z'
naming-more {w} {w₁} {w₂} {x} {v} {z} {z'} d n e q = record {
  long = n.long;
  tag = n.tag;
  kept = whole;
  list = n.list;
  path = n.path;
  other = n.other;
  rest = k.rest;
  ahead = rw (q, members-same whole) k.ahead;
  sub = λ u i. n.sub u (rw k.is (Memᴰ.tail i));
  hit = λ u i. go u (ℕ_discrete u z) (n.hit u i);
  miss = λ u o. rw labels (put-miss z v (label_of w₁) u (λ h. o (n.sub u (rw k.is (Memᴰ.head h)))) ∙ n.miss u o);
}
  where
    k : Next most_tags x (member_of w) z n.rest
    k = ahead-next d n.ahead

    long : Large w₁
    long = omega (arith, n.kept.size, n.long)

    whole : Within (all_of LABEL) w w₂
    whole = rw e (within-trans n.kept (within-set (all_of LABEL) w₁ (LABEL.at + z) v (omega arith) (omega (arith, k.tag))))

    labels : label_of w₂ ≡ put z v (label_of w₁)
    labels = rw e (label-put w₁ z v long k.tag)

    go : (u : ℕ) → Dec (u ≡ z) → Memᴰ u n.rest ⊎ (label_of w₁ u ≡ v) → Memᴰ u k.rest ⊎ (label_of w₂ u ≡ v)
    go u (yes h) o = inr (rw (labels, h) (put-hit z v (label_of w₁)))
    go u (no h) (inr o) = inr (rw labels (put-miss z v (label_of w₁) u h ∙ o))
    go u (no h) (inl i) = elim (Memᴰ.cases_cons (rw k.is at i)) [ inl f ↦ absurd (h f) | inr j ↦ inl j ]

pub naming-long : {w w' : List ℕ} {x v z : ℕ} → Naming w w' x v z → Large w'
naming-long n = omega (arith, n.kept.size, n.long)

pub naming-step : {w w₁ w₂ : List ℕ} {x v z : ℕ} → z ≢ x → Naming w w₁ x v z → w₂ ≡ set w₁ (LABEL.at + z) v → Large w₂
naming-step d n e = naming-long (naming-more d n e refl)

pub naming-less : {w w₁ w₂ : List ℕ} {x v z z' : ℕ} → z ≢ x → Naming w w₁ x v z → w₂ ≡ set w₁ (LABEL.at + z) v → z' ≡ member_of w₂ z → away (member_of w) x most_tags z' < away (member_of w) x most_tags z
naming-less {w} {w₁} {w₂} {x} {v} {z} {z'} d n e q =
    let m : z' ≡ member_of w z = q ∙ ap (λ (f : ℕ → ℕ). f z) (members-same (naming-more d n e q).kept) in
    rw m (away-next z n.rest n.ahead d)

pub naming-end : {w w' w'' : List ℕ} {x v z : ℕ} → z ≡ x → Naming w w' x v z → w'' ≡ set w' (LABEL.at + x) v → Named w w'' x v
naming-end {w} {w'} {w''} {x} {v} {z} e n q = record {
  kept = rw q (within-trans n.kept (within-set (all_of LABEL) w' (LABEL.at + x) v (omega arith) (omega (arith, n.tag))));
  list = n.list;
  path = n.path;
  other = n.other;
  hit = λ u i. elim (Memᴰ.cases_cons i) [ inl h ↦ rw (labels, h) (put-hit x v (label_of w')) | inr h ↦ go u h (n.hit u h) ];
  miss = λ u o. rw labels (put-miss x v (label_of w') u (λ h. o (Memᴰ.head h)) ∙ n.miss u (λ i. o (Memᴰ.tail i)));
}
  where
    labels : label_of w'' ≡ put x v (label_of w')
    labels = rw q (label-put w' x v (omega (arith, n.kept.size, n.long)) n.tag)

    go : (u : ℕ) → Memᴰ u n.list → Memᴰ u n.rest ⊎ (label_of w' u ≡ v) → label_of w'' u ≡ v
    go u i (inl j) = absurd (Memᴰ.not-nil (rw (ahead-end e n.ahead) at j))
    go u i (inr h) = rw labels (put-miss x v (label_of w') u (n.other u i) ∙ h)

-- Whatever labels make the ring.
pub named_by : {w w' : List ℕ} {x v : ℕ} {f : ℕ → ℕ} → Named w w' x v → f x ≡ x → Ring f (member_of w) x → (u : ℕ) → label_of w' u ≡ cond (eqb (f u) x) v (label_of w u)
named_by {w} {w'} {x} {v} {f} n own r u = go (ℕ_discrete (f u) x) (ℕ_discrete u x)
  where
    same : n.list ≡ r.others
    same = path-one n.path r.path (λ i. n.other x i refl) (λ i. (r.inside x i).1 refl)

    go : Dec (f u ≡ x) → Dec (u ≡ x) → label_of w' u ≡ cond (eqb (f u) x) v (label_of w u)
    go (yes h) (yes k) = rw (eq-eqb (f u) x h) (n.hit u (Memᴰ.head k))
    go (yes h) (no k) = rw (eq-eqb (f u) x h) (n.hit u (Memᴰ.tail (rw same (r.all u h k))))
    go (no h) k = rw (ne_eqb (f u) x h) (n.miss u out)
      where
        out : Memᴰ u (x ∷ n.list) → ⊥
        out i = elim (Memᴰ.cases_cons i) [ inl q ↦ h (ap f q ∙ own) | inr j ↦ h (r.inside u (rw same at j)).0 ]

-- The tags after x and y.
pub exchanged : {w w₁ w₂ : List ℕ} {x y k l : ℕ} → Large w → x < most_tags → y < most_tags → k ≡ member_of w x → l ≡ member_of w y → w₁ ≡ set w (MEMBER.at + y) k → w₂ ≡ set w₁ (MEMBER.at + x) l → Exchanged w w₂ x y
exchanged {w} {w₁} {w₂} {x} {y} {k} {l} h a b p q e f = rw (f, e) (record {
  kept = within-trans (within-set ring_part w (MEMBER.at + y) k (omega arith) (omega arith)) (within-set ring_part (set w (MEMBER.at + y) k) (MEMBER.at + x) l (omega arith) (omega arith));
  members = seen-in MEMBER (set w (MEMBER.at + y) k) x l a (omega (arith, length-set w (MEMBER.at + y) k)) ∙ rw (q, p) (ap (put x (member_of w y)) (seen-in MEMBER w y (member_of w x) b (omega arith)));
})

pub exchanged-weighed : {w w₁ w₂ : List ℕ} {x y : ℕ} → Exchanged w w₁ x y → Within (all_of WEIGHT) w₁ w₂ → Exchanged w w₂ x y
exchanged-weighed e f = record { kept = within-trans e.kept (within_wider ring_part (omega arith) (omega arith) f); members = seen-within MEMBER f (inl (omega arith)) ∙ e.members }

pub standing-classes : {w : List ℕ} {k : ℕ} → Standing w k → Classes most_tags (label_of w) (member_of w)
standing-classes s = built-classes s.built

pub ringed-of : {w : List ℕ} {x : ℕ} {f : ℕ → ℕ} → Large w → x < most_tags → Classes most_tags f (member_of w) → f x ≡ x → Ringed w x
ringed-of {w} {x} {f} h l c e = record { long = h; tag = l; rest = (c.ring x e).others; ahead = ahead-start c.own (c.ring x e) }

pub join-room : {w : List ℕ} {x y k : ℕ} → Standing w k → Apart most_tags (label_of w) x y → k < most_tags
join-room s a = built-room s.built a

-- A join.
module _ {w w₁ w₂ w₃ : List ℕ} {x y k : ℕ} (s : Standing w k) (a : Apart most_tags (label_of w) x y) (n : Named w w₁ x y) (e : Exchanged w₁ w₂ x y) (t : w₃ ≡ set w₂ (TRAIL.at + k) x) where
  room : k < most_tags
  room = built-room s.built a

  third : Within (all_of TRAIL) w₂ w₃
  third = rw t (within-set (all_of TRAIL) w₂ (TRAIL.at + k) x (omega arith) (omega (arith, room)))

  long₂ : Large w₂
  long₂ = omega (arith, s.long, n.kept.size, e.kept.size)

  labels : label_of w₃ ≡ (λ z. into y x (label_of w z))
  labels = seen-within LABEL third (inl (omega arith)) ∙ seen-within LABEL e.kept (inr (omega arith))
      ∙ fun_ext (named_by n a.x-own ((standing-classes s).ring x a.x-own))

  members : member_of w₃ ≡ swapped x y (member_of w)
  members = seen-within MEMBER third (inl (omega arith)) ∙ e.members ∙ ap (swapped x y) (members-same n.kept)

  trail : trail_of w₃ ≡ put k x (trail_of w)
  trail = rw t (seen-in TRAIL w₂ k x room (omega (arith, long₂, room)))
      ∙ ap (put k x) (seen-within TRAIL e.kept (inr (omega arith)) ∙ seen-within TRAIL n.kept (inr (omega arith)))

  here : trail_of w₃ k ≡ x
  here = rw trail (put-hit k x (trail_of w))

  grown : Since (trail_of w₃) k w (suc k) w₃
  grown = more {f' = label_of w₃} {m' = member_of w₃} y (none refl refl refl) (rw here a) refl (rw here labels) (rw here members)

  pub linked : Linked w w₃ x y k
  linked = record {
    kept = within-trans (within_wider link_part (omega arith) (omega arith) n.kept) (within-trans (within_wider link_part (omega arith) (omega arith) e.kept) (within_wider link_part (omega arith) (omega arith) third));
    labels = labels;
    trail = trail;
    grown = grown;
    standing = record {
      long = omega (arith, third.size, long₂);
      built = grown-then (grown-trail (λ j l. rw trail (put-miss k x (trail_of w) j (λ q. omega arith))) s.built) grown;
    };
  }

-- And back.
module _ {w : List ℕ} {j : ℕ} (s : Standing w (suc j)) where
  abbrev last : Last most_tags (trail_of w) 0 (λ x. x) (λ x. x) j (label_of w) (member_of w)
  last = grown-last (omega arith) s.built

  pub part-tag : trail_of w j < most_tags
  part-tag = last.apart.x-tag

  pub part-label : label_of w (trail_of w j) ≡ last.to
  part-label = ap (λ (f : ℕ → ℕ). f (trail_of w j)) last.labels-are ∙ joined-x last.apart (trail_of w j) last.apart.x-own

  pub part-other : label_of w (trail_of w j) < most_tags
  part-other = rw part-label last.apart.y-tag

  pub part_room : j < most_tags
  part_room = built-room last.before last.apart

  module _ {w₁ : List ℕ} (e : Exchanged w w₁ (trail_of w j) (label_of w (trail_of w j))) where
    -- For whoever counts the joins from somewhere.
    members-are : {k : ℕ} {f m : ℕ → ℕ} (l : Last most_tags (trail_of w) k f m j (label_of w) (member_of w)) → member_of w₁ ≡ l.nexts
    members-are {k} {f} {m} l = e.members ∙ rw (to, l.nexts-are) (swap-twice (trail_of w j) l.to l.nexts l.apart.differ)
      where
        to : label_of w (trail_of w j) ≡ l.to
        to = ap (λ (f : ℕ → ℕ). f (trail_of w j)) l.labels-are ∙ joined-x l.apart (trail_of w j) l.apart.x-own

    pub part-ringed : Ringed w₁ (trail_of w j)
    part-ringed = ringed-of {f = last.labels} (omega (arith, e.kept.size, s.long)) part-tag (rw (members-are last) (built-classes last.before)) last.apart.x-own

    module _ {w₂ : List ℕ} (n : Named w₁ w₂ (trail_of w j) (trail_of w j)) where
      labels-are : {k : ℕ} {f m : ℕ → ℕ} → Classes most_tags f m → (l : Last most_tags (trail_of w) k f m j (label_of w) (member_of w)) → label_of w₂ ≡ l.labels
      labels-are {k} {f} {m} c l = fun_ext (λ u. named_by {f = l.labels} n l.apart.x-own (rw (members-are l) ((grown-classes c l.before).ring (trail_of w j) l.apart.x-own)) u
          ∙ rw (seen-within LABEL e.kept (inr (omega arith)), l.labels-are) (parted l.apart u))

      pub unlinked : Unlinked w w₂ j
      unlinked = record {
        kept = whole;
        standing = record {
          long = omega (arith, whole.size, s.long);
          built = rw (trails, labels-are (record { flat = λ x. refl; own = λ x l. refl; low = λ x l. l; ring = λ x e. ring-alone x }) last, members last) last.before;
        };
        back = λ k w₀ l st g. let b = grown-last l g in rw (labels-are (standing-classes st) b, members b) b.before;
      }
        where
          whole : Within class_part w w₂
          whole = within-trans (within_wider class_part (omega arith) (omega arith) e.kept) (within_wider class_part (omega arith) (omega arith) n.kept)

          trails : trail_of w₂ ≡ trail_of w
          trails = seen-within TRAIL whole (inr (omega arith))

          members : {k : ℕ} {f m : ℕ → ℕ} (l : Last most_tags (trail_of w) k f m j (label_of w) (member_of w)) → member_of w₂ ≡ l.nexts
          members l = members-same n.kept ∙ members-are l

-- Back by many.
pub record Returning (w w' : List ℕ) (k j i : ℕ) : Type 0 where
  pub on : k ≤ i
  pub kept : Within class_part w w'
  pub standing : Standing w' i
  pub back : (w₀ : List ℕ) → Standing w₀ k → Since (trail_of w) k w₀ j w → Since (trail_of w) k w₀ i w'

pub returning-start : {w : List ℕ} {k j : ℕ} → k ≤ j → Standing w j → Returning w w k j j
returning-start {w} l s = record { on = l; kept = within-refl w; standing = s; back = λ w₀ t g. g }

pub returning-more : {w w₁ w₂ : List ℕ} {k j i : ℕ} → k ≤ i → Returning w w₁ k j (suc i) → Unlinked w₁ w₂ i → Returning w w₂ k j i
returning-more {w} {w₁} {w₂} {k} {j} {i} l r u = record {
  on = l;
  kept = within-trans r.kept u.kept;
  standing = u.standing;
  back = λ w₀ t g. rw (← trails) (u.back k w₀ l t (rw trails (r.back w₀ t g)));
}
  where
    trails : trail_of w₁ ≡ trail_of w
    trails = seen-within TRAIL r.kept (inr (omega arith))

pub returning-end : {w w' : List ℕ} {k j i : ℕ} → i ≤ k → Returning w w' k j i → Returned w w' k j
returning-end {w} {w'} {k} {j} {i} l r =
    let e : i ≡ k = omega (arith, r.on) in
    record { kept = r.kept; standing = rw e at r.standing; back = λ w₀ t g. grown-none (rw e at (r.back w₀ t g)) }

-- A tag by itself.
pub lone : {w w₁ w₂ w₃ : List ℕ} {x : ℕ} → Large w → x < most_tags → w₁ ≡ set w (MEMBER.at + x) x → Within (all_of WEIGHT) w₁ w₂ → w₃ ≡ set w₂ (LABEL.at + x) x → Lone w w₃ x
lone {w} {w₁} {w₂} {w₃} {x} h l p f q = record {
  kept = within-trans first (within-trans (within_wider class_part (omega arith) (omega arith) f) third);
  labels = rw q (label-put w₂ x x long₂ l) ∙ ap (put x x) (seen-within LABEL f (inr (omega arith)) ∙ rw p (seen-out LABEL w (MEMBER.at + x) x (inl (omega arith))));
  members = rw q (seen-out MEMBER w₂ (LABEL.at + x) x (inr (omega arith))) ∙ seen-within MEMBER f (inl (omega arith)) ∙ rw p (seen-in MEMBER w x x l (omega arith));
}
  where
    first : Within class_part w w₁
    first = rw p (within-set class_part w (MEMBER.at + x) x (omega arith) (omega arith))

    third : Within class_part w₂ w₃
    third = rw q (within-set class_part w₂ (LABEL.at + x) x (omega arith) (omega arith))

    long₂ : Large w₂
    long₂ = omega (arith, first.size, f.size)

-- The tags below x are.
pub record Scattering (w w' : List ℕ) (x : ℕ) : Type 0 where
  pub long : Large w
  pub low : x ≤ most_tags
  pub kept : Within class_part w w'
  pub labels : (z : ℕ) → z < x → label_of w' z ≡ z
  pub members : (z : ℕ) → z < x → member_of w' z ≡ z

pub scattering-start : {w : List ℕ} → Large w → Scattering w w 0
scattering-start {w} h = record { long = h; low = omega arith; kept = within-refl w; labels = λ z l. absurd (omega arith); members = λ z l. absurd (omega arith) }

pub scattering-more : {w w₁ w₂ : List ℕ} {x y : ℕ} → x < most_tags → y ≡ x → Scattering w w₁ x → Lone w₁ w₂ y → Scattering w w₂ (suc x)
scattering-more {w} {w₁} {w₂} {x} {y} l q s b = record {
  long = s.long;
  low = l;
  kept = within-trans s.kept a.kept;
  labels = λ z h. rw a.labels (own (label_of w₁) s.labels z h (ℕ_discrete z x));
  members = λ z h. rw a.members (own (member_of w₁) s.members z h (ℕ_discrete z x));
}
  where
    a : Lone w₁ w₂ x
    a = rw q at b

    own : (f : ℕ → ℕ) → ((z : ℕ) → z < x → f z ≡ z) → (z : ℕ) → z < suc x → Dec (z ≡ x) → put x x f z ≡ z
    own f g z h (yes e) = rw e (put-hit x x f)
    own f g z h (no e) = put-miss x x f z e ∙ g z (omega arith)

pub scattered : {w w' : List ℕ} {x : ℕ} → most_tags ≤ x → Scattering w w' x → Scattered w w'
scattered {w} {w'} {x} l s = record {
  kept = s.kept;
  standing = record { long = omega (arith, s.long, s.kept.size); built = none refl (fun_ext (λ z. own (label_of w') s.labels (seen-past LABEL w') z (dec_lt z most_tags))) (fun_ext (λ z. own (member_of w') s.members (seen-past MEMBER w') z (dec_lt z most_tags))) };
}
  where
    own : (f : ℕ → ℕ) → ((z : ℕ) → z < x → f z ≡ z) → ((z : ℕ) → most_tags ≤ z → f z ≡ z) → (z : ℕ) → Dec (z < most_tags) → f z ≡ z
    own f g h z (yes k) = g z (omega arith)
    own f g h z (no k) = h z (omega arith)
