-- The measure is the age.
use Rattle.reason_follow.proofs.+rest_all.Given as goal

abbrev pub decreases-rest_all : goal.decreases-rest_all
decreases-rest_all l = l.limit
