mod Settled
