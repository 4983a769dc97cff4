-- `desk::Desk::sound` meets its contract. The loop keeps that what is left decides.
-- Assumes nothing.
use Rattle.std.proofs.Common.{rules}
use Rattle.desk.proofs.Scanning.{sounds}
use Rattle.desk.proofs.Desk.sound.Goals as goal
use Rattle.desk.proofs.Desk.sound.Goals.{then-not-sound-via-then-not-sound, then-not-sound-via-else-not-sound+then-not-alone}

pub returns-then-not-sound : goal.returns-then-not-sound
returns-then-not-sound c =
    elim c.then-not-sound.branch [
      | then-not-sound-via-then-not-sound w ↦ search (sounds, rules)
      | then-not-sound-via-else-not-sound+then-not-alone w ↦ search (sounds, rules)
    ]

pub loop-i-preserved : goal.loop-i-preserved
loop-i-preserved c = search (sounds, rules)

pub returns : goal.returns
returns c = search (sounds, rules)
