-- `integers::read` meets its contract: the first byte and the bytes behind it are there, or the integer is cut.
-- Assumes nothing.
use mathlib.Core.Path.{◌≡◌, refl, ap, ◌∙◌}
use Prim.Native.Nat.{◌+◌, ◌-◌}
use native.Mathlib.Omega.{arith}
use Rattle.wire.specs.Bytes.{byte_at}
use Rattle.integers.specs.Integers.{size_of, integer_value}
use Rattle.integers.proofs.Values.{has_room, is_cut, is_whole, next_byte, read_all, size_least, size_most}
use Rattle.integers.proofs.read.Goals as goal

pub returns-in_err-first-clause-value : goal.returns-in_err-first-clause-value
returns-in_err-first-clause-value c =
    let s = c.args in
    c.from_residual.ensures ∙ is_cut s.bytes.now s.at (omega (arith, c.in_err-first.ensures.lookup, size_least (byte_at s.bytes.now s.at)))

pub returns-then-bytes-at-clause-value : goal.returns-then-bytes-at-clause-value
returns-then-bytes-at-clause-value c =
    let s = c.args in
    let first : c.in_ok-first.field-0.now ≡ byte_at s.bytes.now s.at = c.in_ok-first.ensures.lookup.3.1 0 in
    is_cut s.bytes.now s.at (omega (arith, c.if-bytes-at.true, c.size_of-size.ensures, ap size_of first))

pub loop-byte-init : goal.loop-byte-init
loop-byte-init c =
    record {
      short = omega (arith, c.size_of-size.ensures, size_most c.in_ok-first.field-0.now (omega arith));
      bits = omega arith;
      left = refl;
    }

pub overflow_mul-value : goal.overflow_mul-value
overflow_mul-value c = omega (arith, has_room c.loop-byte.invariant c.loop-byte-test.true)

pub overflow_add-value : goal.overflow_add-value
overflow_add-value c = omega (arith, has_room c.loop-byte.invariant c.loop-byte-test.true)

pub loop-byte-preserved : goal.loop-byte-preserved
loop-byte-preserved c = next_byte c.loop-byte.invariant c.loop-byte-test.true (omega arith)

pub returns-clause-value : goal.returns-clause-value
returns-clause-value c =
    let s = c.args in
    let first : c.in_ok-first.field-0.now ≡ byte_at s.bytes.now s.at = c.in_ok-first.ensures.lookup.3.1 0 in
    let size : c.size_of-size.result ≡ size_of (byte_at s.bytes.now s.at) = c.size_of-size.ensures ∙ ap size_of first in
    let count : (s.at + c.size_of-size.result) - (s.at + 1) ≡ size_of (byte_at s.bytes.now s.at) - 1 = omega (arith, size) in
    let value : c.loop-byte.value ≡ integer_value s.bytes.now s.at =
    read_all c.loop-byte.invariant c.loop-byte-test.false ∙ rw (first, count) refl in
    rw (value, size) (is_whole s.bytes.now s.at (omega (arith, c.if-bytes-at.false, size, size_least (byte_at s.bytes.now s.at))))
