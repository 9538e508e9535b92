-- Each branch is a condition of 9 or of 1, or the negation of all before it.
use native.Mathlib.Omega.{arith}
use mathlib.Core.Logic.{inl, inr, ⊎_elim}
use Rattle.bundle.proofs.CheckLaws.{frame_nine, has_frame, frame_one, frame_passes}
use Rattle.bundle.proofs.check_frame.Goals as goal

pub returns-then-size-lt2 : goal.returns-then-size-lt2
returns-then-size-lt2 c = frame_nine c.args.bundle.now (⊎_elim (λ l. inl (omega arith)) (λ l. inr (inl (omega arith))) c.then-size-lt2.either)

pub returns-then-tables-eq0 : goal.returns-then-tables-eq0
returns-then-tables-eq0 c = frame_nine c.args.bundle.now
    (inr (inr (inl (λ h. ⊎_elim (λ l. omega (arith, l, h.0)) (λ l. omega (arith, l, h.1)) c.then-tables-eq0.either))))

pub returns-then-size-tables : goal.returns-then-size-tables
returns-then-size-tables c = frame_nine c.args.bundle.now (inr (inr (inr (omega arith))))

pub returns-then-n-eq0 : goal.returns-then-n-eq0
returns-then-n-eq0 c =
    let b = c.args.bundle.now in
    frame_one b (has_frame b (omega arith) (omega arith) (omega arith) (omega arith) (omega arith))
    (λ h. ⊎_elim (λ l. omega (arith, l, h.0)) (λ l. omega (arith, l, h.1)) c.then-n-eq0.either)

pub returns : goal.returns
returns c =
    let b = c.args.bundle.now in
    frame_passes b (has_frame b (omega arith) (omega arith) (omega arith) (omega arith) (omega arith)) (omega arith) (omega arith)
