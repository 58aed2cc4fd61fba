-- The last line of `sniff`.
use Rattle.std.specs.Prelude.{◌++◌, ◌∷◌, [], codes, decimal}
use Rattle.zb_model.specs.Data.{Bytes}
use Rattle.zb_pcap.specs.declared.extraction.Counts.{Counts}
use Rattle.zb_text.specs.Words.{then}

-- how many packets there are, how many of them have a wrong check sequence, and how many hold no frame otherwise
abbrev pub counts_line : Counts → Bytes
counts_line counts = codes "packets" ++ then (decimal counts.packets) ++ then (decimal counts.bad_check)
    ++ then (decimal counts.other) ++ 10 ∷ []
