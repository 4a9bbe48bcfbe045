-- `column_counts::dilate_columns` meets its contract. The loop's invariant: the columns before column c are written.
-- Assumes nothing.
use Rattle.column_counts.specs.steps.Strip.{Swept}
use Rattle.column_counts.proofs.dilate_columns.Given as goal

abbrev pub invariant-loop-c : goal.invariant-loop-c
invariant-loop-c l = Swept l.plane l.size.h l.size.w l.k l.c l.c 0 l.out
