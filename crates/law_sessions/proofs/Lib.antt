pub mod Used
pub mod SessionLemmas
mod Stamps
pub mod FoundAgain
mod SealLines
mod PlainLines
mod HubRuns
mod Carried
mod Claimed
mod LogLemmas
mod LogRuns
mod LogClaims
mod Made
mod SoundTables
mod Widths
mod LineWidths
mod RuledSessions
mod OnDisk
mod Offered
mod RunLemmas
mod Lefts
mod LeftsOfRuns
mod FirstFound
mod Done
mod DoneSince
mod Heard
mod HeardDeeds
mod Instances
mod HeardSince
