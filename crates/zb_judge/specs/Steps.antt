-- The model's words that judging opens, under one short name for the functions that do.
unfoldable pub use Rattle.zb_model.specs.Judging.{judge_net, judge_nwk, judge_aps, need, reject}
unfoldable pub use Rattle.zb_model_real.specs.Real.{real}
unfoldable pub use Rattle.zb_seal.specs.Opening.{opened_nwk, seen_nwk, opened_aps, seen_aps}
