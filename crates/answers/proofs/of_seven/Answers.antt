-- `of_seven` has each of the seven numbers in a cell, which it fits.
use Rattle.laws.proofs.Tabulate.{tabulate-cells}
use Rattle.answers.proofs.Small.{fitting_at}
use Rattle.answers.proofs.of_seven.Goals as goal

pub overflow_cast-result : goal.overflow_cast-result
overflow_cast-result c = record { fits = fitting_at c.args.numbers 0 c.requires.0 }

pub overflow_cast-result-2 : goal.overflow_cast-result-2
overflow_cast-result-2 c = record { fits = fitting_at c.args.numbers 1 c.requires.0 }

pub overflow_cast-result-3 : goal.overflow_cast-result-3
overflow_cast-result-3 c = record { fits = fitting_at c.args.numbers 2 c.requires.0 }

pub overflow_cast-result-4 : goal.overflow_cast-result-4
overflow_cast-result-4 c = record { fits = fitting_at c.args.numbers 3 c.requires.0 }

pub overflow_cast-result-5 : goal.overflow_cast-result-5
overflow_cast-result-5 c = record { fits = fitting_at c.args.numbers 4 c.requires.0 }

pub overflow_cast-result-6 : goal.overflow_cast-result-6
overflow_cast-result-6 c = record { fits = fitting_at c.args.numbers 5 c.requires.0 }

pub overflow_cast-result-7 : goal.overflow_cast-result-7
overflow_cast-result-7 c = record { fits = fitting_at c.args.numbers 6 c.requires.0 }

pub returns : goal.returns
returns c = tabulate-cells 7 c.args.numbers 0 c.requires.1
