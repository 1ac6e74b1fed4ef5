-- A number is put as the bytes that its digits make.
use native.Mathlib.Omega.{arith}
use Rattle.text.proofs.Decimal.{few_digits}
use Rattle.text.proofs.Texts.{digits_put}
use Rattle.text.proofs.lines.put_digits.Goals as goal

pub put_bytes-requires : goal.put_bytes-requires
put_bytes-requires c = omega (arith, few_digits c.args.number (omega arith) c.decimal-length.result c.decimal-length.ensures.len)

pub returns : goal.returns
returns c =
    digits_put c.args.number c.decimal-length.result (omega arith) c.decimal-length.ensures.len _ _ _ _ _ c.decimal-length.ensures.digits c.decimal-length.ensures.in_bounds.1 c.put_bytes.ensures
