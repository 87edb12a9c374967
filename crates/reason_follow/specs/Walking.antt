-- A way between two tags, as the code holds it: what every step on it asks and leaves. No meaning rests on it. Assumes nothing.
use Rattle.std.specs.Prelude.{List, ℕ}
use Rattle.reason_follow.specs.declared.Way.{Way}
use Rattle.reason_follow.specs.Ways.{SomeWay, Onward}

-- A way to t has come to p.
abbrev pub Underway : List ℕ → ℕ → Way → Type 0
Underway w t p = SomeWay w t p.at.0 p.to.0 p.below p.waiting

-- From w to w' it went on from p to q.
abbrev pub Further : List ℕ → ℕ → Way → List ℕ → Way → Type 0
Further w t p w' q = Onward w t p.at.0 p.to.0 p.below p.waiting w' q.at.0 q.to.0 q.below q.waiting
