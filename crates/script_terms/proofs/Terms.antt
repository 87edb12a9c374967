-- Between terms and the parts of curried terms: a congruence on terms is one on parts, and the other way round. Assumes nothing.
use Prim.Native.Nat.{ℕ}
use native.Mathlib.Omega.{arith}
use mathlib.Core.Path.{◌≡◌, refl, sym, ◌∙◌, ap}
use mathlib.Core.List.{List}
use lib.ListN.{length, get_or}
use Rattle.meaning.specs.Following.{Rec}
use Rattle.script_terms.specs.Terms.{Term, call, Args, none, more, constant, count, snoc, Among, first, later, Each, end, next, Congruence, Command, Terms}
use Rattle.script_terms.specs.Flat.{Part, symbol, applied, curry, spine}
use Rattle.script_terms.proofs.Known.{Within, bare, with}
use Rattle.script_terms.proofs.Worth.{Agree, agree_refl, agree-sym, agree_trans, agree-applied}
use Rattle.script_terms.proofs.Alike.{Alike, head, arg, Regular}

-- All arguments of another list.
abbrev pub join : Args → Args → Args
join none ts = ts
join (more s ss) ts = more s (join ss ts)

abbrev pub extend : Term → Term → Term
extend (call f ss) t = call f (snoc ss t)

-- A part as a term, of whatever arguments it has.
abbrev pub uncurry : Part → Term
uncurry (symbol f) = constant f
uncurry (applied p q) = extend (uncurry p) (uncurry q)

join-none : (ss : Args) → join ss none ≡ ss
join-none none = refl
join-none (more s ss) = ap (more s) (join-none ss)

join-snoc : (ss : Args) (t : Term) (ts : Args) → join (snoc ss t) ts ≡ join ss (more t ts)
join-snoc none t ts = refl
join-snoc (more s ss) t ts = ap (more s) (join-snoc ss t ts)

join-nothing : (ss ts : Args) → count ts ≡ 0 → join ss ts ≡ ss
join-nothing ss none e = join-none ss
join-nothing ss (more t ts) e = absurd (omega arith)

extend-is : {x y : Term} {f : ℕ} {ss : Args} {t : Term} → x ≡ call f ss → y ≡ t → extend x y ≡ call f (snoc ss t)
extend-is e e' = rw (e, e') refl

mutual
  pub curry-back : (t : Term) → uncurry (curry t) ≡ t
  curry-back (call f ts) = spine-back ts (symbol f) f none refl

  spine-back : (ts : Args) (p : Part) (f : ℕ) (ss : Args) → uncurry p ≡ call f ss → uncurry (spine ts p) ≡ call f (join ss ts)
  spine-back none p f ss e = e ∙ ap (call f) (sym (join-none ss))
  spine-back (more t ts) p f ss e = spine-back ts (applied p (curry t)) f (snoc ss t) (extend-is e (curry-back t)) ∙ ap (call f) (join-snoc ss t ts)

-- Parts that are alike are one symbol applied to equal arguments.
record Calls (R : Term → Term → Type 0) (s t : Term) : Type 0 where
  of : ℕ
  left : Args
  right : Args
  left_is : s ≡ call of left
  right_is : t ≡ call of right
  equal : Each R left right

each_snoc : {R : Term → Term → Type 0} {ss ts : Args} {s t : Term} → Each R ss ts → R s t → Each R (snoc ss s) (snoc ts t)
each_snoc end r = next r end
each_snoc (next q e) r = next q (each_snoc e r)

alike-calls : (R : Term → Term → Type 0) {p q : Part} → Alike (λ p q. R (uncurry p) (uncurry q)) p q → Calls R (uncurry p) (uncurry q)
alike-calls R (head {f = f}) = record { of = f; left = none; right = none; left_is = refl; right_is = refl; equal = end }
alike-calls R (arg {p = p} {q = q} {s = s} {t = t} a r) =
    let c = alike-calls R a in
    record {
      of = c.of;
      left = snoc c.left (uncurry s);
      right = snoc c.right (uncurry t);
      left_is = rw c.left_is refl;
      right_is = rw c.right_is refl;
      equal = each_snoc c.equal r;
    }

pub regular : {In : Term → Type 0} {R : Term → Term → Type 0} → Congruence In R → Regular (λ p. In (uncurry p)) (λ p q. R (uncurry p) (uncurry q))
regular {R = R} C = record {
  reflexive = λ p i. C.reflexive (uncurry p) i;
  symmetric = λ r. C.symmetric r;
  transitive = λ r s. C.transitive r s;
  monotonic = λ i j a. let c = alike-calls R a in rw (c.left_is, c.right_is) (C.monotonic (rw c.left_is at i) (rw c.right_is at j) c.equal);
}

-- The parts of a term of the set are within.
module _ {ns : List ℕ} {cs : List Command} {In : Term → Type 0} (D : Terms ns cs In) where
  mutual
    pub term-within : (t : Term) → In t → Within (length ns) (λ f. get_or ns f 0) (λ p. In (uncurry p)) (curry t) 0
    term-within (call f ts) i =
        let d = D.declared i in
        spine-within ts (symbol f) f none refl i (λ u h. D.arguments i h) (bare d.there d.takes (λ z. D.constants (record { there = d.there; takes = d.takes ∙ z })))

    spine-within : (ts : Args) (p : Part) (f : ℕ) (ss : Args) → uncurry p ≡ call f ss → In (call f (join ss ts)) → ((t : Term) → Among t ts → In t)
        → Within (length ns) (λ f. get_or ns f 0) (λ p. In (uncurry p)) p (count ts) → Within (length ns) (λ f. get_or ns f 0) (λ p. In (uncurry p)) (spine ts p) 0
    spine-within none p f ss e i a w = w
    spine-within (more t ts) p f ss e i a w =
        let e' : extend (uncurry p) (uncurry (curry t)) ≡ call f (snoc ss t) = extend-is e (curry-back t) in
        let i' : In (call f (join (snoc ss t) ts)) = rw (join-snoc ss t ts) i in
        spine-within ts (applied p (curry t)) f (snoc ss t) e' i' (λ u h. a u (later h)) (with w (term-within t (a t first)) (λ z. rw e' (rw (join-nothing (snoc ss t) ts z) at i')))

-- Worth an equal tag is a congruence on terms.
spine-agree : {Q : Rec → Type 0} {ss ts : Args} {p q : Part} → Each (λ s t. Agree Q (curry s) (curry t)) ss ts → Agree Q p q → Agree Q (spine ss p) (spine ts q)
spine-agree end a = a
spine-agree {Q} (next r e) a = spine-agree e (agree-applied Q a r)

pub worth-congruence : (Q : Rec → Type 0) (In : Term → Type 0) → Congruence In (λ s t. Agree Q (curry s) (curry t))
worth-congruence Q In = record {
  reflexive = λ t i. agree_refl Q (curry t);
  symmetric = λ r. agree-sym Q r;
  transitive = λ r s. agree_trans Q r s;
  monotonic = λ {f} i j e. spine-agree e (agree_refl Q (symbol f));
}
