use Rattle.cq_bind_expressions.proofs.Productions.{sum_by, product_by, signed_by, group_by}
use Rattle.cq_bind_expressions.proofs.nodes.arithmetic.Goals as goal

pub returns-in-Sum : goal.returns-in-Sum
returns-in-Sum g c = sum_by _ _ _ _ _ _ _ _ c.in-Sum.is c.get.ensures c.sum.ensures

pub returns-in-Product : goal.returns-in-Product
returns-in-Product g c = product_by _ _ _ _ _ _ _ _ c.in-Product.is c.get-in-Product.ensures c.product.ensures

pub returns-in-Signed : goal.returns-in-Signed
returns-in-Signed g c = signed_by _ _ _ _ _ _ _ _ _ c.in-Signed.is c.get-in-Signed.ensures c.signed.ensures

pub returns-in-Group : goal.returns-in-Group
returns-in-Group g c = group_by _ _ _ _ _ _ _ _ c.in-Group.is c.get-in-Group.ensures c.expr.ensures

pub sum-requires-clause-rest : goal.sum-requires-clause-rest
sum-requires-clause-rest g c = (c.requires.sum _ _ c.in-Sum.is).1

pub product-requires-clause-rest : goal.product-requires-clause-rest
product-requires-clause-rest g c = (c.requires.product _ _ c.in-Product.is).1
