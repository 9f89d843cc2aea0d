-- `told_at`: six words.
use Rattle.log_judge.proofs.slots.told_at.Goals as goal

pub returns : goal.returns
returns c =
    rw (c.get32.ensures, c.get32-2.ensures, c.get32-3.ensures, c.get32-4.ensures, c.get32-5.ensures, c.get32-6.ensures)
