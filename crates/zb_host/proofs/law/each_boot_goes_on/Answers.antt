use Rattle.zb_host.proofs.Lives.{each_boot}
use Rattle.zb_host.proofs.law.each_boot_goes_on.Goals as goal

pub returns : goal.returns
returns g c = λ disk steps told whole life. each_boot
    (record {
      tells = g.D.Disk.tells;
      state = g.D.Disk.state;
      restored = g.C.Core.restored;
      recorded = g.C.Core.recorded;
      payload = g.C.Core.payload;
    })
    (λ d told. g.met.D.Disk.reads_image d told) disk steps told whole life
