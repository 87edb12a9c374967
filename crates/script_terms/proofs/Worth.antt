-- From the congruences to the job. A part is worth a tag if the records make it of its symbols' tags; parts that are worth equal tags, or none, are equal in a
-- congruence, and a symbol is worth its own tag. Assumes nothing.
use Prim.Native.Nat.{ℕ}
use mathlib.Core.List.{List, Memᴰ}
use Rattle.meaning.specs.Following.{Rec, app, Follows, same, flip, chain, congruent}
use Rattle.script_terms.specs.Flat.{Part, symbol, applied, tag_of}
use Rattle.script_terms.proofs.Known.{Known, leaf, node}

module _ (Q : Rec → Type 0) where
  pub data Worth : Part → ℕ → Type 0 where
    itself : {f : ℕ} → Worth (symbol f) f
    by : {p q : Part} {a b c a' b' : ℕ} → Worth p a' → Worth q b' → Follows Q a a' → Follows Q b b' → Q (app a b c) → Worth (applied p q) c

  pub worth-one : {p : Part} {i j : ℕ} → Worth p i → Worth p j → Follows Q i j
  worth-one itself itself = same
  worth-one (by u v g h r) (by u' v' g' h' r') =
      congruent r r' (chain g (chain (worth-one u u') (flip g'))) (chain h (chain (worth-one v v') (flip h')))

  -- Whatever p is worth, q is worth an equal one.
  abbrev pub Reaches : Part → Part → Type 0
  Reaches p q = (i : ℕ) → Worth p i → (j : ℕ) × Worth q j × Follows Q i j

  abbrev pub Agree : Part → Part → Type 0
  Agree p q = Reaches p q × Reaches q p

  pub agree_refl : (p : Part) → Agree p p
  agree_refl p = (λ i w. (i, w, same), λ i w. (i, w, same))

  pub agree-sym : {p q : Part} → Agree p q → Agree q p
  agree-sym e = (e.1, e.0)

  reaches-trans : {p q r : Part} → Reaches p q → Reaches q r → Reaches p r
  reaches-trans f g i w = let x = f i w in let y = g x.0 x.1 in (y.0, y.1, chain x.2 y.2)

  pub agree_trans : {p q r : Part} → Agree p q → Agree q r → Agree p r
  agree_trans e g = (reaches-trans e.0 g.0, reaches-trans g.1 e.1)

  reaches-applied : {p q p' q' : Part} → Reaches p p' → Reaches q q' → Reaches (applied p q) (applied p' q')
  reaches-applied f g c (by {a' = a'} {b' = b'} u v h k r) =
      let x = f a' u in
      let y = g b' v in
      (c, by x.1 y.1 (chain h x.2) (chain k y.2) r, same)

  pub agree-applied : {p q p' q' : Part} → Agree p p' → Agree q q' → Agree (applied p q) (applied p' q')
  agree-applied e g = (reaches-applied e.0 g.0, reaches-applied e.1 g.1)

  pub agree-worth : {p q : Part} {i j : ℕ} → Worth p i → Worth q j → Follows Q i j → Agree p q
  agree-worth {i = i} {j = j} u v f = (λ k w. (j, v, chain (worth-one w u) f), λ k w. (i, u, chain (worth-one w v) (flip f)))

  -- Between parts that are worth something that is following.
  pub agree-follows : {p q : Part} {i j : ℕ} → Worth p i → Worth q j → Agree p q → Follows Q i j
  agree-follows {i = i} u v e = let x = e.0 i u in chain x.2 (worth-one x.1 v)

  -- A part that is known with its halves is worth its tag, if the records of the parts are there.
  pub known-worth : (S : ℕ) (all : List Part) {l : List Part} → ((p q : Part) → Memᴰ (applied p q) l → Q (app (tag_of S all p) (tag_of S all q) (tag_of S all (applied p q)))) → {p : Part}
      → Known S l p → Worth p (tag_of S all p)
  known-worth S all filed (leaf h) = itself
  known-worth S all filed (node {p = p} {q = q} i u v) = by (known-worth S all filed u) (known-worth S all filed v) same same (filed p q i)
