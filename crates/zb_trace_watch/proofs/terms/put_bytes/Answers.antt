use Rattle.std.proofs.Common.{refl, rules}
use Rattle.zb_trace_watch.proofs.TermBytes.{all_put, put_then}
use Rattle.zb_trace_watch.proofs.terms.put_bytes.Goals as goal

pub returns : goal.returns
returns c =
    all_put c.args.term.now _ _ _ _ _ _ _ _ _ _ c.requires c.low_bytes_4.ensures c.layer_number.ensures (search rules)
    refl c.label_number.ensures c.low_bytes_8.ensures c.len.ensures.value
    c.as_slice.ensures.value c.as_slice-2.ensures.value c.as_slice.ensures.fits c.as_slice-2.ensures.fits
    (put_then _ _ _ _ _ c.put.ensures
    (put_then _ _ _ _ _ c.put-2.ensures (put_then _ _ _ _ _ c.put-3.ensures (put_then _ _ _ _ _ c.put-4.ensures
    (put_then _ _ _ _ _ c.put-5.ensures
    (put_then _ _ _ _ _ c.put-6.ensures (put_then _ _ _ _ _ c.put-7.ensures c.put-8.ensures)))))))
