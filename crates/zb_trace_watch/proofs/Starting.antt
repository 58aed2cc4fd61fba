-- The words of no lines, a watch over none, and shapes that answers share.
use Rattle.zb_model.specs.Lines as log
use Rattle.std.proofs.Common.{◌≡◌, ℕ, List, [], Bool, true, false, not, ◌&&◌, Option, Some, None, refl, Result, Ok, Err, arith}
use Rattle.std.specs.Result.{OnOk}
use Rattle.std.specs.Option.{is_none, option_map}
use Rattle.std.specs.Prelude.{if◌then◌else◌}
use Rattle.zb_aps.specs.Reading.{frame_of}
use Rattle.zb_aps.specs.declared.auxiliary.ApsAux.{ApsAux}
use Rattle.zb_aps.specs.declared.fault.ApsError.{ApsError}
use Rattle.zb_aps.specs.declared.frame.ApsFrame.{ApsFrame}
use Rattle.zb_seal.specs.Carrying as carrying
use Rattle.zb_cmd.specs.Reading.{command_of}
use Rattle.zb_cmd.specs.declared.command.Command.{Command}
use Rattle.zb_cmd.specs.declared.command.Command.TheVariants as command
use Rattle.zb_cmd.specs.declared.fault.CmdError.{CmdError}
use Rattle.zb_cmd.specs.declared.fault.CmdError.TheVariants as fault
use Rattle.zb_model.specs.Data.{Bytes}
use Rattle.zb_model.specs.Readings.{stations_of}
use Rattle.zb_model.specs.Secrets.{clear_key, key_shown, unsealed_key, bases, codes_of, each_line, ever, ideal, network_keys, passes_on, private, removed_devices, terms_of}
use Rattle.zb_model.specs.Tools.{Tools}
use Rattle.zb_model_real.specs.Readers.{aps_shown, auxiliary, command_shown}
use Rattle.zb_model_real.specs.Real.{real}
use Rattle.zb_seal.specs.declared.term.Term.{Term}
use Rattle.zb_trace_watch.specs.Exposure.{IsSettled, was_removed}
use Rattle.zb_trace_watch.specs.Nodes.{Declares}
use Rattle.zb_trace_watch.specs.Sayings as say
use Rattle.zb_trace_watch.specs.Sayings.{start, Sayings}
use Rattle.zb_trace_watch.specs.Sets.{has, is_carried, node_has, number_has}
use Rattle.zb_trace_watch.specs.Standing.{FindKeys, Represents, bytes_of}
use Rattle.zb_trace_watch.specs.Terms.{has_term}
use Rattle.zb_trace_watch.specs.Watching.{is_somebody, said, Stands}
use Rattle.zb_trace_watch.specs.declared.exposure.Exposure.{Exposure}
use Rattle.zb_trace_watch.specs.declared.nodes.Nodes.{Nodes}
use Rattle.zb_trace_watch.specs.declared.origins.Origins.{Origins}
use Rattle.zb_trace_watch.specs.declared.passing.Passing.{Passing}
use Rattle.zb_trace_watch.specs.declared.words.EndWords.{EndWords}
use Rattle.zb_trace_watch.proofs.Outsiders.{known_is_exposed}
use Rattle.zb_trace_watch.proofs.Truth.{not_both}

pub on_ok : {T E : Type 0} (r : Result T E) (P Q : Type 0) → (P → Q) → OnOk r P → OnOk r Q
on_ok (Ok x) P Q f p = f p
on_ok (Err e) P Q f p = tt

pub private_is : (tools : Tools) (counts : ℕ → Bool) (w : EndWords) (s : Sayings) → Represents tools counts w s
    → (w.exposure.based && not w.passing.passed_on) ≡ say.private tools s
private_is tools counts w s stands = rw (stands.based, stands.passed_on) refl

module _ (tools : Tools) (counts : ℕ → Bool) (origins : Origins) (passing : Passing) (exposure : Exposure) where
  pub new_stands : ((t : Term) → has_term origins.terms t ≡ false)
      → ((n : ℕ) (k : Bytes) → number_has origins.codes n k ≡ false)
      → ((n : ℕ) (k : Bytes) → number_has origins.bases n k ≡ false)
      → ((k b : Bytes) → is_carried origins.carriers k b ≡ false)
      → ((n : ℕ) (k : Bytes) → number_has origins.traced n k ≡ false) → origins.ideal ≡ true
      → ((k : Bytes) → has passing.network k ≡ false) → ((k : Bytes) → has passing.forged k ≡ false)
      → passing.passed_on ≡ false
      → IsSettled exposure → ((n : ℕ) (k : Bytes) → node_has exposure.ever n k ≡ false)
      → ((d : ℕ) → was_removed exposure d ≡ false) → ((b k : Bytes) → is_carried exposure.carried b k ≡ false)
      → exposure.based ≡ true
      → Represents tools counts (record { origins = origins; passing = passing; exposure = exposure }) start
  unfolding say.passes_on
  new_stands terms codes bases carriers traced ideal network forged passed settled ever removed carried
      based = record {
        few = omega arith;
        terms = terms;
        carried = carried;
        ever = λ n some k. ever n k;
        codes = λ n some k. codes n k;
        bases = λ n some k. bases n k;
        carriers = λ b k. carriers k b;
        traced = λ n some k it. absurd (not_both _ it (traced n k));
        removed = removed;
        somebody = refl;
        known = known_is_exposed tools exposure start (omega arith) carried (λ n some k. ever n k) removed
            refl settled;
        network = network;
        forged = forged;
        passed_on = passed;
        ideal = ideal;
        based = based;
      }

-- A watch over no lines, and its two words

pub watch_starts : (tools : Tools) (nodes : Nodes) (w : EndWords) → Declares nodes []
    → Represents tools is_somebody w start → Stands tools (record { nodes = nodes; words = w }) []
unfolding stations_of terms_of ever codes_of bases removed_devices network_keys ideal each_line
watch_starts tools nodes w declares represents = record { nodes = declares; words = represents }

pub watch_private : (tools : Tools) (h : List log.Line) → say.private tools (said tools h) ≡ private tools h
unfolding private passes_on say.passes_on
watch_private tools h = refl

-- The model's tools find what this program's readers find, if they read as these do.

command_found : (r : Result Command CmdError) → key_shown (command_shown r) ≡ bytes_of (carrying.key_in r)
command_found (Ok (command.TransportNetwork key sequence destination source)) = refl
command_found (Ok (command.TransportApplication key partner initiator)) = refl
command_found (Ok (command.TransportLink key destination source)) = refl
command_found (Ok (command.Update device short status)) = refl
command_found (Ok (command.Remove target)) = refl
command_found (Ok (command.RequestApplication partner)) = refl
command_found (Ok command.RequestLink) = refl
command_found (Ok (command.Switch sequence)) = refl
command_found (Ok (command.Tunnel destination inner)) = refl
command_found (Ok (command.Verify kind source hash)) = refl
command_found (Ok (command.Confirm status kind destination)) = refl
command_found (Err (fault.Unknown id)) = refl
command_found (Err (fault.KeyType found)) = refl
command_found (Err (fault.Short at)) = refl
command_found (Err (fault.Trailing count)) = refl

unsealed_found : (f : ApsFrame) (aux : Option ApsAux) (b : Bool)
    → unsealed_key real (record { is_command = b; auxiliary = option_map auxiliary aux; body = f.body.items })
    (option_map auxiliary aux)
    ≡ bytes_of (if is_none aux && b then carrying.key_in (command_of f.body.items) else None)
unfolding real
unsealed_found f None true = command_found (command_of f.body.items)
unsealed_found f None false = refl
unsealed_found f (Some aux) b = refl

frame_found : (r : Result ApsFrame ApsError) → clear_key real (aps_shown r) ≡ bytes_of (carrying.clear_key r)
frame_found (Ok f) = unsealed_found f f.aux (carrying.is_command f.header.control)
frame_found (Err e) = refl

pub readers_find : FindKeys real
unfolding real
readers_find = record {
  in_command = λ bytes. command_found (command_of bytes);
  in_frame = λ bytes. frame_found (frame_of bytes);
}
