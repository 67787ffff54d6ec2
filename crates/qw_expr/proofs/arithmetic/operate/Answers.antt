use Rattle.qw_expr.proofs.arithmetic.operate.Goals as goal

pub returns-in-Add-clause-block : goal.returns-in-Add-clause-block
returns-in-Add-clause-block c = rw c.in-Add.is c.add.ensures.block

pub returns-in-Subtract-clause-block : goal.returns-in-Subtract-clause-block
returns-in-Subtract-clause-block c = rw c.in-Subtract.is c.subtract.ensures.block

pub returns-in-Multiply-clause-block : goal.returns-in-Multiply-clause-block
returns-in-Multiply-clause-block c = rw c.in-Multiply.is c.multiply.ensures.block

pub returns-in-Divide-clause-block : goal.returns-in-Divide-clause-block
returns-in-Divide-clause-block c = rw c.in-Divide.is c.divide.ensures.block
