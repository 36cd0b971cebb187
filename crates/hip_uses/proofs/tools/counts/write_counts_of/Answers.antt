use Rattle.std.proofs.Common.{◌≡◌, length, ap, arith, Err}
use Rattle.std.proofs.lemmas.List.{length-map}
use Rattle.hip_uses.specs.Number.{text_bytes}
use Rattle.hip_uses.proofs.Counting.{counts-written, intern-fails, numbers-low, rows-low}
use Rattle.hip_uses.proofs.tools.counts.write_counts_of.Goals as goal

pub returns-in-Err-clause-fault : goal.returns-in-Err-clause-fault
returns-in-Err-clause-fault g c =
    rw c.intern_fault.ensures (intern-fails c.args.text.now.items c.with_hasher-interner.result c.intern_words.new.self c.in-Err.fault c.requires c.with_hasher-interner.ensures c.in-Err.ensures.front (λ is. c.in-Err.ensures.too_many (ap (λ e. Err e) is)))

pub counts_of-requires : goal.counts_of-requires
counts_of-requires g c =
    rw (c.as_slice.ensures.value, c.len.ensures) (numbers-low c.intern_words.new.self _ c.in-Ok.numbers.items c.in-Ok.ensures.numbers)

pub print_counts-requires : goal.print_counts-requires
print_counts-requires g c =
    let shown = c.texts.result.now in
    let size : length c.in_ok-counts.counts.items ≡ length shown = omega (arith, c.in_ok-counts.ensures.len, c.len.ensures, length-map shown text_bytes, ap length c.texts.ensures) in
    rw c.as_slice-3.ensures.value (rows-low (length shown) c.in_ok-counts.counts.items c.in_ok-rows.rows.items size (rw c.as_slice-2.ensures.value at c.in_ok-rows.ensures.each))

pub returns-clause-written : goal.returns-clause-written
returns-clause-written g c = (
  _,
  counts-written c.args.text.now.items c.with_hasher-interner.result c.intern_words.new.self c.texts.result.now c.in-Ok.numbers.items c.in_ok-counts.counts.items c.in_ok-rows.rows.items
      c.with_hasher-interner.ensures c.in-Ok.ensures.texts c.texts.ensures c.in-Ok.ensures.numbers
      (omega (arith, c.in_ok-counts.ensures.len, c.len.ensures)) (rw (c.as_slice.ensures.value, c.len.ensures) at c.in_ok-counts.ensures.counts)
      (rw c.as_slice-2.ensures.value at c.in_ok-rows.ensures.each) c.in_ok-rows.ensures.order,
  rw c.as_slice-3.ensures.value at c.in_ok-print_counts.ensures,
)
