-- It calls itself on the tenth part, and the number falls.
use Rattle.text_line.proofs.+put_number.Given as goal

abbrev pub decreases-put_number : goal.decreases-put_number
decreases-put_number l = l.n
